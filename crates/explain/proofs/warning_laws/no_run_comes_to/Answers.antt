use Rattle.explain.proofs.CutOff.{never_stands}
use Rattle.explain.proofs.warning_laws.no_run_comes_to.Goals as goal

pub returns : goal.returns
returns c = never_stands

use Rattle.std.proofs.Common.{take, ap, ◌∙◌}
use Rattle.std.proofs.lemmas.List.{take_min}
use Rattle.text_parts.proofs.excerpt.front_of.Goals as goal

pub returns : goal.returns
returns c = ap (λ n. take n c.args.line.now) c.min.ensures ∙ take_min c.args.most c.args.line.now

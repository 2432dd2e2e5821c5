use Rattle.entail_refused.proofs.SiteLaws.{of_site}
use Rattle.entail_refused.proofs.site_laws.hypotheses_are_of_the_site.Goals as goal

pub returns : goal.returns
returns c p t place number formed inside g h = of_site p t place number formed inside g h

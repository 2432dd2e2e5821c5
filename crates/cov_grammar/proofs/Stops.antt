-- Where a reader stops, the reader above it stops.
use Rattle.std.proofs.Common.{◌≡◌, List, Err}
use Rattle.cov_grammar.specs.declared.token.Token.{Token}
use Rattle.cov_grammar.specs.declared.stop.Stop.{Stop}
use Rattle.cov_grammar.specs.declared.stop.Stop.TheVariants as stops
use Rattle.cov_grammar.specs.Reading.{Reading, stopped}
use Rattle.cov_grammar.specs.ReaderAnswers.{Gives}

pub stop_onward : {X Y A B : Type 0} (view : X → A) (out : Y → B) (e : Stop) (after : List Token) (o : Reading A) (p : Reading B) → (o ≡ stopped after → p ≡ stopped after) → Gives view after (Err e) o → Gives out after (Err e) p
stop_onward view out stops.Unexpected after o p f h = f h
stop_onward view out stops.NoMemory after o p f h = tt

use Rattle.std.proofs.Common.{ap}
use Rattle.std.specs.List.{list_any}
use Rattle.std.specs.Str.{bytes_eq}
use Rattle.object_code.proofs.repeated.first_repeated.Goals as goal

pub repeated_in-requires : goal.repeated_in-requires
repeated_in-requires c = λ f. ap (list_any (bytes_eq f)) c.new-known.ensures.empty

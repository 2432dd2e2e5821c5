use Rattle.std.proofs.Common.{refl}
use Rattle.cov_read.specs.DeclViews as decls
use Rattle.cov_text.specs.Text.{words_of}
use Rattle.cov_text.proofs.NamesInOrder.{declarations_named}
use Rattle.cov_text.proofs.WordLaws.{names_few}
use Rattle.cov_parse.proofs.text.read_program_text.Goals as goal

pub parsed_of-requires : goal.parsed_of-requires
parsed_of-requires c =
    declarations_named c.args.bytes.now (names_few c.args.bytes.now c.in_ok-names.ensures.0.lexes c.requires) c.in_ok-names.field-0.names (words_of c.args.bytes.now) (decls.program c.in_ok-program.program)
    c.in_ok-names.ensures.0 c.in_ok-names.ensures.1 refl c.in_ok-program.ensures.0

use Rattle.cov_ast.specs.View as view
use Rattle.explain.proofs.beside.add_compiled.Goals as goal

-- the parts are those of the program, which are code
pub add_code_lines-requires : goal.add_code_lines-requires
add_code_lines-requires c = rw c.in_ok-parts.ensures (c.compiled_is_code.ensures (view.program c.args.program.now) c.requires)

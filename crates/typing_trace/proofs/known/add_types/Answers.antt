use Rattle.std.proofs.Common.{◌≡◌, ℕ, List, ◌+◌, ◌∷◌, ◌++◌, ◌∙◌, None, ap, sym, get_or, map, drop, append_assoc}
use Rattle.std.proofs.lemmas.List.{at_drop_more}
use Rattle.cov_ast.specs.View as view
use Rattle.cov_ast.specs.declared.decl.VarDecl.{VarDecl}
use Rattle.typing_points.specs.Traces.{plain_of}
use Rattle.typing_trace.specs.KnownLines.{type_line, type_lines}
use Rattle.typing_trace.proofs.known.add_types.Goals as goal

pub loop-x-preserved : goal.loop-x-preserved
loop-x-preserved c a k =
    let w = c.args.trace.now in
    let names = c.args.names.now in
    let vars = c.args.vars.now in
    let x = c.loop-x.x in
    let v = c.index-vars-x.result in
    let line = type_line names (view.var v) (get_or a.types x None) in
    let rest = type_lines names a.types (x + 1) (map view.var (drop (x + 1) vars)) in
    let from : List VarDecl → List ℕ = λ vs. type_lines names a.types x (map view.var vs) in
    let next : from (drop x vars) ≡ line ++ rest = at_drop_more from vars x v c.loop-x-test.true ∙ ap (λ y. from (y ∷ drop (x + 1) vars)) (sym c.index-vars-x.is) in
    ap (λ s. s ++ rest) (c.in_ok-add_type.ensures ∙ ap (λ q. c.loop-x.text ++ type_line names (view.var v) q) (c.type_of.ensures.given (plain_of w) w.thread a k))
    ∙ append_assoc c.loop-x.text line rest ∙ ap (λ s. c.loop-x.text ++ s) (sym next) ∙ c.loop-x.invariant a k

use Rattle.std.proofs.Common.{◌≡◌, ◌<◌, ◌∙◌, ◌++◌, [], length, get_or, map, sym, ap, subst, append_assoc, arith}
use Rattle.std.proofs.lemmas.List.{get_or_read}
use Rattle.std.proofs.lemmas.Result.{on_ok_weaker}
use Rattle.cov_ast.specs.View as view
use Rattle.explain.specs.LevelTellings.{mark_lines, observer_line, refused_lines}
use Rattle.level_text.specs.Views as level_view
use Rattle.levels.specs.Order.{rows_of, seen_by}
use Rattle.levels.specs.Projection.{projected, shown}
use Rattle.levels.proofs.OrderLaws.{rows_long}
use Rattle.explain.proofs.observers.add_observer.Goals as goal

pub bounds-as_slice-observer-2 : goal.bounds-as_slice-observer-2
bounds-as_slice-observer-2 c =
    let l = level_view.levels c.args.l.now in
    let rows : c.as_slice-2.result.now ≡ rows_of l = c.as_slice-2.ensures ∙ c.in_ok-rows.ensures in
    subst (λ rs. c.args.observer < length rs) (sym rows)
    (omega (arith, rows_long (length c.args.program.now.vars) l c.requires.levels, c.requires.inside))

pub returns : goal.returns
returns c =
    let l = level_view.levels c.args.l.now in
    let p = view.program c.args.program.now in
    let name = c.args.name.now in
    let bytes = c.args.bytes.now in
    let refusal = c.args.refusal.now in
    let o = c.args.observer in
    let old = c.args.text.now in
    let rows : c.as_slice-2.result.now ≡ rows_of l = c.as_slice-2.ensures ∙ c.in_ok-rows.ensures in
    let among : o < length c.as_slice-2.result.now =
    subst (λ rs. o < length rs) (sym rows) (omega (arith, rows_long (length c.args.program.now.vars) l c.requires.levels, c.requires.inside)) in
    let seen : c.index-as_slice-observer-2.result ≡ seen_by l o =
    get_or_read c.as_slice-2.result.now o c.index-as_slice-observer-2.result among c.index-as_slice-observer-2.is [] ∙ ap (λ rs. get_or rs o []) rows in
    let named : o < length c.as_slice.result.now = subst (λ ns. o < length ns) (sym c.as_slice.ensures) c.requires.inside in
    let level : c.index-as_slice-observer.result ≡ get_or l.names o [] =
    get_or_read c.as_slice.result.now o c.index-as_slice-observer.result named c.index-as_slice-observer.is [] ∙ ap (λ ns. get_or ns o []) c.as_slice.ensures in
    let line = observer_line (get_or l.names o []) in
    let marks = mark_lines (seen_by l o) l.names p.vars in
    let told = refused_lines name bytes (projected l o p) refusal in
    let first : c.add_observer_line.new.text ≡ old ++ line = c.in_ok-add_observer_line.ensures ∙ ap (λ n. old ++ observer_line n) level in
    let second : c.add_marks.new.text ≡ old ++ line ++ marks =
    c.in_ok-add_marks.ensures
    ∙ (λ i. first i ++ mark_lines (seen i) (c.as_slice-3.ensures i) (map view.var (c.as_slice-4.ensures i))) in
    on_ok_weaker c.add_shown.result
    (λ is. is ∙ (λ i. second i ++ refused_lines name bytes (shown (seen i) l p) refusal) ∙ append_assoc (old ++ line) marks told
    ∙ append_assoc old line (marks ++ told))
    c.add_shown.ensures

use Rattle.std.proofs.Common.{get_or, refl, ◌≡◌, ◌∙◌, ◌<◌, length, sym, ap, map, [], if◌then◌else◌, Some, None}
use Rattle.std.proofs.lemmas.List.{at_drop_all, get_or_default}
use Rattle.std.proofs.lemmas.Option.{get_or_from_slice_get}
use Rattle.cov_ast.specs.NameTables.{with_name}
use Rattle.cov_ast.proofs.WellFormedLaws.{seen_item}
use Rattle.cov_text.specs.GivenTrees.{name_of}
use Rattle.policy_class.specs.Resolved.{is_among}
use Rattle.level_text.specs.TextFaults as spec
use Rattle.level_text.specs.TextViews as views
use Rattle.level_text.proofs.PlaceLaws.{again_step, sooner_none}
use Rattle.level_text.proofs.FindLaws.{no_name}
use Rattle.level_text.proofs.repeats.first_again.Goals as goal

pub name-name-requires : goal.name-name-requires
name-name-requires c =
    let l = c.loop-named in
    let x = get_or c.args.list.now l.named-index no_name in
    seen_item views.named (λ x. x.0 < length c.args.names.now) c.args.list.now l.named-index x c.requires c.loop-named-test.true
    (get_or_default c.args.list.now l.named-index no_name x c.loop-named-test.true)

pub loop-named-preserved : goal.loop-named-preserved
loop-named-preserved c =
    let l = c.loop-named in
    let x = get_or c.args.list.now l.named-index no_name in
    let text : name_of c.args.names.now x.name ≡ c.name-name.result = get_or_from_slice_get c.args.names.now x.name c.name-name.result [] c.name-name.ensures in
    again_step c.args.names.now views.named c.args.list.now l.named-index x no_name l.before c.add_name.new.before l.found c.sooner-found.result c.loop-named-test.true refl
    (c.sooner-found.ensures ∙ ap (spec.sooner l.found) (c.again.ensures ∙ ap (λ t. if is_among l.before t then Some x.at else None) (sym text)))
    (c.in_ok-add_name.ensures ∙ ap (with_name l.before) (sym text))
    ∙ l.invariant

pub returns : goal.returns
returns c =
    sym (sooner_none c.loop-named.found)
    ∙ sym (at_drop_all (λ ys. spec.sooner c.loop-named.found (spec.first_again c.args.names.now c.loop-named.before (map views.named ys))) c.args.list.now c.loop-named.named-index c.loop-named-test.false)
    ∙ c.loop-named.invariant

-- The names that a text of levels uses as variables are those of the variables that it lists, and those of the variables of its
-- expressions among them.
use Rattle.std.proofs.Common.{◌≡◌, ℕ, ◌≤◌, List, [], ◌∷◌, ◌++◌, map, true, not, ◌&&◌, if◌then◌else◌, Option, Some, None, refl, sym, ap, subst, ◌∙◌, append_assoc, All}
use Rattle.std.proofs.lemmas.List.Elements.{All-nil, All-cons}
use Rattle.cov_expr.specs.Term.{Term}
use Rattle.cov_expr.specs.declared.expr.TheConstants.{HOLE}
use Rattle.cov_expr.specs.declared.kind.Kind.{Kind}
use Rattle.cov_expr.specs.declared.kind.Kind.TheVariants as k
use Rattle.cov_grammar.specs.declared.token.Token.{Token}
use Rattle.cov_grammar.specs.LookAhead.{kind_is}
use Rattle.cov_grammar.specs.PlacedTrees.{Placed, Named}
use Rattle.cov_grammar.specs.Shapes.{Shape, seq, opt, Each, Spells}
use Rattle.cov_grammar.specs.Spells.{Within}
use Rattle.cov_grammar.specs.Grammar.{◌▸◌, ◌◂◌, named, whole}
use Rattle.cov_ast.specs.Ready.{uses_in}
use Rattle.cov_text.proofs.Summaries.{AreFine, fine_left, fine_right}
use Rattle.level_text.specs.TextFaults.{is_level_behind, variables_behind}
use Rattle.level_text.specs.TextTrees.{Listing, LevelText}
use Rattle.level_text.specs.TextGrammar.{listing, level_text}
use Rattle.level_text.proofs.CalmLaws.{Every, every_parts, numbers, expr_names}

-- the kind in front of what stands behind tokens
abbrev last_kind : (before : Kind) → List Token → Kind
last_kind before [] = before
last_kind before (t ∷ ts) = last_kind t.kind ts

scan_split : (before : Kind) (us vs : List Token) → variables_behind before (us ++ vs) ≡ variables_behind before us ++ variables_behind (last_kind before us) vs
scan_split before [] vs = refl
scan_split before (u ∷ us) vs =
    let one : List Named = if kind_is k.Name u.kind && not (is_level_behind before) then (u.value, u.at) ∷ [] else [] in
    ap (λ xs. one ++ xs) (scan_split u.kind us vs) ∙ sym (append_assoc one (variables_behind u.kind us) (variables_behind (last_kind u.kind us) vs))

numbers_append : (xs ys : List Named) → numbers (xs ++ ys) ≡ numbers xs ++ numbers ys
numbers_append [] ys = refl
numbers_append (x ∷ xs) ys = ap (λ ns. x.0 ∷ ns) (numbers_append xs ys)

module _ (P : ℕ → Type 0) where
  -- each name that tokens use as a variable has the property
  abbrev pub Uses : (before : Kind) → List Token → Type 0
  Uses before ts = Every P (numbers (variables_behind before ts))

  uses_split : (before : Kind) (us vs ts : List Token) → ts ≡ us ++ vs → Uses before ts → Uses before us × Uses (last_kind before us) vs
  uses_split before us vs ts e h =
      every_parts P (numbers (variables_behind before us)) (numbers (variables_behind (last_kind before us) vs))
      (subst (Every P) (ap numbers (ap (variables_behind before) e ∙ scan_split before us vs) ∙ numbers_append (variables_behind before us) (variables_behind (last_kind before us) vs)) h)

  module _ (n : ℕ) (few : n ≤ HOLE) (d : ℕ) where
    -- A part of a text with its tokens, of which each name that is used as a variable behind a kind has the property.
    record Part {A : Type 0} (a : Shape A) (v : A) (before : Kind) : Type 0 where
      tokens : List Token
      spelled : Spells (Within d) a v tokens
      uses : Uses before tokens
      fine : AreFine n tokens

    behind_part : {A : Type 0} (j : Kind) (a : Shape A) (v : A) (before : Kind) → Part (j ▸ a) v before → Part a v j
    behind_part j a v before x =
        let s = x.spelled in
        let w = s.2 in
        let parts = uses_split before w.0 w.1 x.tokens w.4 x.uses in
        record {
          tokens = w.1;
          spelled = subst (λ u. Spells (Within d) a u w.1) s.1 w.3;
          uses = subst (λ j. Uses j w.1) (ap (last_kind before) w.2.1 ∙ w.2.0) parts.1;
          fine = fine_right n w.0 w.1 x.tokens w.4 x.fine;
        }

    closed_part : {A : Type 0} (j : Kind) (a : Shape A) (v : A) (before : Kind) → Part (a ◂ j) v before → Part a v before
    closed_part j a v before x =
        let s = x.spelled in
        let w = s.2 in
        let parts = uses_split before w.0 w.1 x.tokens w.4 x.uses in
        record {
          tokens = w.0;
          spelled = subst (λ u. Spells (Within d) a u w.0) s.1 w.2;
          uses = parts.0;
          fine = fine_left n w.0 w.1 x.tokens w.4 x.fine;
        }

    -- the two parts of a sequence; the second stands behind some kind
    left_part : {A B : Type 0} (a : Shape A) (b : Shape B) (v : A × B) (before : Kind) → Part (seq a b) v before → Part a v.0 before
    left_part a b v before x =
        let s = x.spelled in
        record { tokens = s.0; spelled = s.2; uses = (uses_split before s.0 s.1 x.tokens s.4 x.uses).0; fine = fine_left n s.0 s.1 x.tokens s.4 x.fine }

    right_part : {A B : Type 0} (a : Shape A) (b : Shape B) (v : A × B) (before : Kind) → Part (seq a b) v before → (j : Kind) × Part b v.1 j
    right_part a b v before x =
        let s = x.spelled in
        (last_kind before s.0, record { tokens = s.1; spelled = s.3; uses = (uses_split before s.0 s.1 x.tokens s.4 x.uses).1; fine = fine_right n s.0 s.1 x.tokens s.4 x.fine })

    -- a name behind `var`
    listed_name : (v : Named) → Part named v k.Var → P v.0
    unfolding kind_is
    listed_name v x =
        let s = x.spelled in
        let t = s.0 in
        let here : Uses k.Var (t ∷ []) = subst (Uses k.Var) s.2.1 x.uses in
        let is : kind_is k.Name t.kind ≡ true = ap (kind_is k.Name) s.2.0 in
        let one : Every P (numbers ((if kind_is k.Name t.kind && not (is_level_behind k.Var) then (t.value, t.at) ∷ [] else []) ++ [])) = here in
        let found : Every P (numbers ((if true && not (is_level_behind k.Var) then (t.value, t.at) ∷ [] else []) ++ [])) =
        subst (λ b. Every P (numbers ((if b && not (is_level_behind k.Var) then (t.value, t.at) ∷ [] else []) ++ []))) is one in
        subst (λ (w : Named). P w.0) s.1 found.0

    -- an expression behind `when`
    chosen_expr : (e : Placed Term) → Part whole e k.When → Every P (map (λ u. u.name) (uses_in e.1))
    chosen_expr e x = subst (Every P) (expr_names n few d e.1 x.tokens x.fine x.spelled.1) x.uses

    abbrev pub IsChosen : Option (Placed Term × Named) → Type 0
    IsChosen None = Unit {0}
    IsChosen (Some x) = Every P (map (λ u. u.name) (uses_in x.0.1))

    abbrev pub IsListed : Listing → Type 0
    IsListed c = P c.var.0 × IsChosen c.choice

    choice_part : (c : Option (Placed Term × Named)) (before : Kind) → Part (opt (k.When ▸ seq whole (k.Else ▸ named))) c before → IsChosen c
    choice_part None before x = tt
    choice_part (Some c) before x =
        let inner : Part (k.When ▸ seq whole (k.Else ▸ named)) c before = record { tokens = x.tokens; spelled = x.spelled; uses = x.uses; fine = x.fine } in
        chosen_expr c.0 (left_part whole (k.Else ▸ named) c k.When (behind_part k.When (seq whole (k.Else ▸ named)) c before inner))

    listing_part : (c : Listing) (before : Kind) → Part listing c before → IsListed c
    unfolding listing
    listing_part c before x =
        let s = x.spelled in
        let u = s.0 in
        let rest = k.Colon ▸ seq named (opt (k.When ▸ seq whole (k.Else ▸ named))) in
        let whole_part : Part (k.Var ▸ seq named rest ◂ k.Semicolon) u before = record { tokens = x.tokens; spelled = s.2; uses = x.uses; fine = x.fine } in
        let both = closed_part k.Semicolon (seq named rest) u k.Var (behind_part k.Var (seq named rest ◂ k.Semicolon) u before whole_part) in
        let behind = right_part named rest u k.Var both in
        let pair = behind_part k.Colon (seq named (opt (k.When ▸ seq whole (k.Else ▸ named)))) u.1 behind.0 behind.1 in
        let last = right_part named (opt (k.When ▸ seq whole (k.Else ▸ named))) u.1 k.Colon pair in
        subst IsListed s.1 (listed_name u.0 (left_part named rest u k.Var both), choice_part u.1.1 last.0 last.1)

    listings_part : (cs : List Listing) (before : Kind) (ts : List Token) → Each (Spells (Within d) listing) cs ts → Uses before ts → AreFine n ts → All IsListed cs
    listings_part [] before ts s h f = All-nil IsListed
    listings_part (c ∷ cs) before ts s h f =
        let parts = uses_split before s.0 s.1 ts s.4 h in
        All-cons IsListed c cs
        (listing_part c before (record { tokens = s.0; spelled = s.2; uses = parts.0; fine = fine_left n s.0 s.1 ts s.4 f }))
        (listings_part cs (last_kind before s.0) s.1 s.3 parts.1 (fine_right n s.0 s.1 ts s.4 f))

    pub text_part : (t : LevelText) (ts : List Token) → Spells (Within d) level_text t ts → Uses k.Semicolon ts → AreFine n ts → All IsListed t.listings
    unfolding level_text
    text_part t ts s h f =
        let w = s.2 in
        let parts = uses_split k.Semicolon w.0 w.1 ts w.4 h in
        subst (λ (x : LevelText). All IsListed x.listings) s.1 (listings_part s.0.1 (last_kind k.Semicolon w.0) w.1 w.3 parts.1 (fine_right n w.0 w.1 ts w.4 f))

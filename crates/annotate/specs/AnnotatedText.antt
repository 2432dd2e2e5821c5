-- The text of the annotated program: chosen certificates in the numbers of names, and every use of a name in the order of the text.
use Rattle.std.specs.Prelude.{◌≡◌, ◌⊎◌, ℕ, suc, ◌≤◌, List, [], ◌∷◌, ◌++◌, length, map, take, drop, get_or, flat_map, IsTrue, Option, Some, None, All, Contains}
use Rattle.cov_expr.specs.Term.{Term}
use Rattle.cov_expr.specs.declared.expr.TheConstants.{HOLE}
use Rattle.cov_ast.specs.NameTables.{number_of}
use Rattle.cov_ast.specs.Ready.{HasUsesInOrder, IsReady, Use, as_lock, as_variable, use_of, uses_in, uses_in_cert, uses_in_class, uses_in_lock, uses_in_modes, uses_in_option, uses_in_state, uses_in_type}
use Rattle.cov_ast.specs.Syntax.{State, Cert, Proof, Stm, Block, Thread, Parsed}
use Rattle.cov_ast.specs.declared.parsed.NameUse.{NameUse}
use Rattle.statement_parts.specs.Parts.{folded, folded_in, Inside, of_either, of_none, of_turn, Parts, Store}
use Rattle.policy_class.specs.Resolved.{is_among, resolved, resolved_cert, var_names}
use Rattle.annotate.specs.Annotated.{choices}
use Rattle.annotate.specs.WithCertificates.{chosen_for, for_others, put_in_threads}

-- Names --------------------------------------------------------------------------------------------------------

-- the number of the name of a variable
abbrev pub name_number : Parsed → ℕ → ℕ
name_number p x = number_of p.names (get_or (var_names p) x [])

-- a certificate with the number of its name for each variable; the hole of a template stays, and no certificate names a lock
abbrev pub unresolved_cert : Parsed → Cert → Cert
unresolved_cert p c = resolved_cert (name_number p) (λ l. l) c

abbrev pub unresolved_choice : Parsed → ℕ × Cert → ℕ × Cert
unresolved_choice p c = (c.0, unresolved_cert p c.1)

-- what is chosen for the program of a text
abbrev pub unresolved_choices : (depth : ℕ) → Parsed → (t place : ℕ) → List (ℕ × Cert)
unresolved_choices depth p t place = map (unresolved_choice p) (choices depth (resolved p) t place)

-- The name of each variable is among the names of the text.
abbrev pub AreVariablesNamed : Parsed → Type 0
AreVariablesNamed p = All (λ name. IsTrue (is_among p.names name)) (var_names p)

-- A text as reading gives it: ready, each use of a name in the order of the text, each variable's name among the names, and of these no more than the
-- number of the hole.
pub record IsAsRead (p : Parsed) : Type 0 where
  pub ready : IsReady p
  pub in_order : HasUsesInOrder p
  pub named : AreVariablesNamed p
  pub few : length p.names ≤ HOLE

-- Uses ---------------------------------------------------------------------------------------------------------

-- A part of a text, by the uses of names in it: it stays, or it is replaced.
pub data UsesPart : Type 0 where
  stays : List Use → UsesPart
  becomes : (before : List Use) → (after : List NameUse) → UsesPart

-- the uses in a certificate, at the place of its statement
abbrev pub uses_at : (place : ℕ) → Cert → List NameUse
uses_at place c = map (λ u. record { name = u.name; lock = u.lock; at = place }) (uses_in_cert c)

-- a certificate in the place of which another may be chosen
abbrev pub part_of_cert : (place : ℕ) → Cert → Option Cert → UsesPart
part_of_cert place c None = stays (uses_in_cert c)
part_of_cert place c (Some d) = becomes (uses_in_cert c) (uses_at place d)

abbrev pub part_of_new : (place : ℕ) → ℕ × Cert → UsesPart
part_of_new place c = becomes [] (uses_at place c.1)

-- the proofs of a statement at a place, and behind them those that are new
abbrev pub parts_of_proofs : (place : ℕ) → List (ℕ × Cert) → List Proof → List UsesPart
parts_of_proofs place chosen [] = map (part_of_new place) chosen
parts_of_proofs place chosen (q ∷ qs) = part_of_cert place q.cert (chosen_for chosen q.number) ∷ parts_of_proofs place (for_others q.number chosen) qs

-- the uses in an assignment: of its variable, in the value, in the type that is written, and in those that are listed
abbrev pub uses_in_store : Store → List Use
uses_in_store v = as_variable v.variable ++ uses_in v.value ++ uses_in_option v.written ++ flat_map uses_in_type v.retypes

-- those in what is stated
abbrev pub uses_stated : Option State → List Use
uses_stated None = []
uses_stated (Some j) = uses_in_state j

-- The uses in a statement without blocks: it stores, it takes or gives back a lock, it puts out, or it states. Proofs are left out.
module _ (others : List Use) where
  abbrev pub stored_or : Option Store → List Use
  stored_or None = others
  stored_or (Some v) = uses_in_store v

  abbrev pub lock_or : Option ℕ → List Use
  lock_or None = others
  lock_or (Some l) = as_lock l

  abbrev pub printed_or : Option Term → List Use
  printed_or None = others
  printed_or (Some e) = uses_in e

abbrev pub own_uses : Parts → List Use
own_uses ps = stored_or (lock_or (lock_or (printed_or (uses_stated ps.state) ps.printed) ps.returned) ps.taken) ps.store

-- A statement without its proofs, by what is in its blocks. A loop states in front of its block, and a branch behind both.
abbrev pub parts_around : Parts → Inside (List UsesPart) → List UsesPart
parts_around ps of_none = stays (own_uses ps) ∷ []
parts_around ps (of_turn e inv b) = stays (uses_in_option ps.guard ++ uses_stated ps.state) ∷ b
parts_around ps (of_either e join a b) = stays (uses_in_option ps.guard) ∷ (a ++ (b ++ stays (uses_stated ps.state) ∷ []))

-- with what is chosen for each place
module _ (chosen : (place : ℕ) → List (ℕ × Cert)) where
  -- a statement with its proofs, in front of others
  abbrev pub parts_before : (place : ℕ) → List Proof → (first others : List UsesPart) → List UsesPart
  parts_before at proofs first others = first ++ (parts_of_proofs at (chosen at) proofs ++ others)

  abbrev pub parts_in_stm : Stm → List UsesPart
  parts_in_stm c = folded parts_around parts_before [] c

  abbrev pub parts_in_block : Block → List UsesPart
  parts_in_block b = folded_in parts_around parts_before [] b

-- threads, numbered from a number on
abbrev pub parts_in_threads : (chosen : (t place : ℕ) → List (ℕ × Cert)) → (t : ℕ) → List Thread → List UsesPart
parts_in_threads chosen t [] = []
parts_in_threads chosen t (h ∷ hs) = stays (uses_in_modes h.modes) ∷ (parts_in_block (chosen t) h.body ++ parts_in_threads chosen (suc t) hs)

abbrev pub parts_in : (chosen : (t place : ℕ) → List (ℕ × Cert)) → Parsed → List UsesPart
parts_in chosen p =
    stays (flat_map (λ v. uses_in_class v.class) p.vars ++ flat_map uses_in_lock p.locks) ∷ parts_in_threads chosen 0 p.threads

-- The uses of a text of which parts are replaced, by those before: a part that stays has as many of them as there are uses in it, and these keep their places.
abbrev pub uses_with : List UsesPart → List NameUse → List NameUse
uses_with [] uses = []
uses_with (stays us ∷ ps) uses = take (length us) uses ++ uses_with ps (drop (length us) uses)
uses_with (becomes before after ∷ ps) uses = after ++ uses_with ps (drop (length before) uses)

-- A use is one in a certificate that is chosen for the statement at its place.
pub record IsUseOfChosen (chosen : (t place : ℕ) → List (ℕ × Cert)) (u : NameUse) : Type 0 where
  pub thread : ℕ
  pub choice : ℕ × Cert
  pub is_chosen : Contains (chosen thread u.at) choice
  pub is_used : Contains (uses_in_cert choice.1) (use_of u)

-- Each use after is new, or is one of those before, behind those that came before it there.
abbrev pub AreKeptOrNew : (IsNew : NameUse → Type 0) → (before after : List NameUse) → Type 0
AreKeptOrNew IsNew before [] = Unit {0}
AreKeptOrNew IsNew before (u ∷ us) =
    (IsNew u × AreKeptOrNew IsNew before us) ⊎ ((n : ℕ) × (rest : List NameUse) × (drop n before ≡ u ∷ rest) × AreKeptOrNew IsNew rest us)

-- The text -----------------------------------------------------------------------------------------------------

-- the text with certificates put in, by the number of a thread and the place of a statement in it
abbrev pub put_in_text : (chosen : (t place : ℕ) → List (ℕ × Cert)) → Parsed → Parsed
put_in_text chosen p = record {
  version = p.version;
  names = p.names;
  uses = uses_with (parts_in chosen p) p.uses;
  vars = p.vars;
  locks = p.locks;
  threads = put_in_threads chosen 0 p.threads;
}

-- with what is chosen for its program, each variable of a certificate by the number of its name
abbrev pub with_choices : (chosen : (t place : ℕ) → List (ℕ × Cert)) → Parsed → Parsed
with_choices chosen p = put_in_text (λ t place. map (unresolved_choice p) (chosen t place)) p

abbrev pub annotated_text : (depth : ℕ) → Parsed → Parsed
annotated_text depth p = put_in_text (unresolved_choices depth p) p

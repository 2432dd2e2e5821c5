-- What a walk looks at, and what it keeps of the entailments that it comes by.
use Rattle.std.specs.Prelude.{ℕ, ◌==◌, ◌&&◌, List, [], ◌∷◌, Bool, true, not, filter, map, Option, option_map}
use Rattle.std.specs.List.{list_all}
use Rattle.cov_ast.specs.Obligations.{Obligation}
use Rattle.cov_ast.specs.Syntax.{Cert, Program}
use Rattle.cov_ast.specs.View as view
use Rattle.cert_search.specs.Searching.{search}
use Rattle.typing_law.specs.ThreadEntailments.{PlacedEntailment, all_entailments, entailment_obligations, is_about_certificates, is_passed, reached, view_entail}
use Rattle.typing_law.specs.ThreadObligations.{thread_obligations}
use Rattle.typing_rules.specs.declared.kept.Kept.{Kept}
use Rattle.typing_rules.specs.declared.kept.Kept.TheVariants.{Copy, Found}
use Rattle.typing_rules.specs.declared.kept.Searched.{Searched}
use Rattle.typing_rules.specs.declared.purpose.Purpose.{Purpose}
use Rattle.typing_rules.specs.declared.purpose.Purpose.TheVariants.{Judge, Collect, Search}
use Rattle.typing_rules.specs.declared.purpose.Wanted.{Wanted}
use Rattle.typing_rules.specs.declared.purpose.Wanted.TheVariants.{Every, Numbered}

-- What is asked ------------------------------------------------------------------------------------------------

-- an entailment, and whether it is proved where it is asked for: its certificate is valid
pub record Asked : Type 0 where
  pub listed : PlacedEntailment
  pub proved : Bool

-- entailments, each beside the obligation that asks for it
abbrev pub beside : List Obligation → List PlacedEntailment → List Asked
beside [] gs = []
beside (e ∷ es) [] = []
beside (e ∷ es) (g ∷ gs) = record { listed = g; proved = e.holds } ∷ beside es gs

-- of entailments, those whose obligations are reached
abbrev pub asked_among : List Obligation → List PlacedEntailment → List Asked
asked_among obligations entailments = beside (entailment_obligations (reached obligations)) entailments

-- those of a thread
abbrev pub asked_in_thread : Program → (t : ℕ) → List Asked
asked_in_thread p t = asked_among (thread_obligations p t) (all_entailments p t)

-- What is kept -------------------------------------------------------------------------------------------------

-- whether an entailment with a number at a place is wanted
abbrev pub is_wanted : Wanted → (place number : ℕ) → Bool
is_wanted Every place number = true
is_wanted (Numbered p n) place number = place == p && number == n

-- of entailments, those that are wanted
abbrev pub wanted_among : Wanted → List PlacedEntailment → List PlacedEntailment
wanted_among wanted gs = filter (λ g. is_wanted wanted g.place g.number) gs

-- what a search comes to for an entailment, by the place of its statement and its number there
pub record SearchedEntailment : Type 0 where
  pub place : ℕ
  pub number : ℕ
  pub found : Option Cert

-- a search of a depth
abbrev pub searched_for : (depth : ℕ) → PlacedEntailment → SearchedEntailment
searched_for depth g = record { place = g.place; number = g.number; found = search depth g.entailment.hyps g.entailment.goal }

-- an item that a walk keeps: an entailment, or what a search comes to for one
pub data Item : Type 0 where
  copied : PlacedEntailment → Item
  sought : SearchedEntailment → Item

-- of what is asked, what a walk keeps: to search, it keeps what isn't proved
abbrev pub kept_for : Purpose → List Asked → List Item
kept_for Judge asked = []
kept_for (Collect wanted) asked = map copied (wanted_among wanted (map (λ a. a.listed) asked))
kept_for (Search depth) asked = map (λ a. sought (searched_for depth a.listed)) (filter (λ a. not a.proved) asked)

-- what the code keeps
abbrev pub view_searched : Searched → SearchedEntailment
view_searched s = record { place = s.place; number = s.number; found = option_map view.cert s.found }

abbrev pub view_kept : Kept → Item
view_kept (Copy e) = copied (view_entail e)
view_kept (Found s) = sought (view_searched s)

-- of items, the entailments, and what a search comes to
abbrev pub copied_among : List Item → List PlacedEntailment
copied_among [] = []
copied_among (copied g ∷ items) = g ∷ copied_among items
copied_among (sought s ∷ items) = copied_among items

abbrev pub sought_among : List Item → List SearchedEntailment
sought_among [] = []
sought_among (copied g ∷ items) = sought_among items
sought_among (sought s ∷ items) = s ∷ sought_among items

-- What is looked at --------------------------------------------------------------------------------------------

-- whether an obligation isn't about certificates
abbrev pub is_other : Obligation → Bool
is_other e = not (is_about_certificates e.refusal.rule)

-- none of the obligations is about certificates
abbrev pub are_others : List Obligation → Bool
are_others obligations = list_all is_other obligations

-- each of the obligations holds or is about certificates
abbrev pub are_passed : List Obligation → Bool
are_passed obligations = list_all is_passed obligations

-- of obligations, those that a walk looks at
abbrev pub looked_at : Purpose → List Obligation → List Obligation
looked_at Judge obligations = obligations
looked_at (Collect wanted) obligations = filter is_other obligations
looked_at (Search depth) obligations = filter is_other obligations

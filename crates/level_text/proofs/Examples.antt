-- Small texts of levels, of which it is known which first fault they have and which levels they give, by computation. Each stands above its
-- tokens and its tree.
use Rattle.std.proofs.Common.{◌≡◌, ℕ, ◌+◌, List, [], ◌∷◌, Some, None, refl}
use Rattle.cov_expr.specs.Term.{var}
use Rattle.cov_expr.specs.declared.kind.Kind.{Kind}
use Rattle.cov_expr.specs.declared.kind.Kind.TheVariants as k
use Rattle.cov_ast.specs.Declarations.{no_modes}
use Rattle.cov_ast.specs.Syntax.{low, high, assign, more, done, Parsed}
use Rattle.cov_grammar.specs.declared.token.Token.{Token}
use Rattle.cov_grammar.specs.LookAhead.{kind_is}
use Rattle.level_text.specs.declared.fault.LevelFault.TheVariants.{Many, Same, Unknown, Plain}
use Rattle.level_text.specs.Lattice.{at_level}
use Rattle.level_text.specs.TextFaults.{first_fault, levels_given}
use Rattle.level_text.specs.TextTrees.{Level, Listing, LevelText}

abbrev a_name : List ℕ
a_name = 97 ∷ []

abbrev s_name : List ℕ
s_name = 115 ∷ []

abbrev pub_name : List ℕ
pub_name = 112 ∷ 117 ∷ 98 ∷ []

abbrev sec_name : List ℕ
sec_name = 115 ∷ 101 ∷ 99 ∷ []

-- var sec: low; var a: low; var s: high; thread t assume hide s { s := a as sec; }
abbrev marked : Parsed
marked = record {
  version = 1;
  names = sec_name ∷ a_name ∷ s_name ∷ (116 ∷ []) ∷ [];
  uses = [];
  vars = record { name = sec_name; at = 4; class = low } ∷ record { name = a_name; at = 18; class = low } ∷ record { name = s_name; at = 30; class = high } ∷ [];
  locks = [];
  threads = record { name = 116 ∷ []; at = 46; modes = record no_modes { assume_hide = 2 ∷ [] }; body = more 64 (assign 2 (var 1) (Some (var 0)) []) [] done; end = 79 } ∷ [];
}

abbrev name_at : (place number : ℕ) → Token
name_at place number = record { kind = k.Name; at = place; end = place; value = number }

abbrev sign_at : Kind → (place : ℕ) → Token
sign_at j place = record { kind = j; at = place; end = place; value = 0 }

-- level NAME;
abbrev lone_level : (place number : ℕ) → List Token → List Token
lone_level place number rest = sign_at k.Level place ∷ name_at (place + 6) number ∷ sign_at k.Semicolon (place + 10) ∷ rest

-- var NAME: NAME;
abbrev listing_at : (place which level : ℕ) → List Token → List Token
listing_at place which level rest =
    sign_at k.Var place ∷ name_at (place + 4) which ∷ sign_at k.Colon (place + 5) ∷ name_at (place + 7) level ∷ sign_at k.Semicolon (place + 10) ∷ rest

abbrev alone : (place number : ℕ) → Level
alone place number = record { name = (number, place); lower = [] }

abbrev listed : (place which level : ℕ) → Listing
listed place which level = record { var = (which, place + 4); level = (level, place + 7); choice = None }

-- Levels that are given -----------------------------------------------------------------------------------------------

-- level pub; level sec: pub; var a: pub; var s: sec;
abbrev two_names : List (List ℕ)
two_names = pub_name ∷ sec_name ∷ a_name ∷ s_name ∷ []

abbrev two_tokens : List Token
two_tokens =
    lone_level 0 0 (sign_at k.Level 11 ∷ name_at 17 1 ∷ sign_at k.Colon 20 ∷ name_at 22 0 ∷ sign_at k.Semicolon 25 ∷ listing_at 27 2 0 (listing_at 39 3 1 []))

abbrev two_levels : List Level
two_levels = alone 6 0 ∷ record { name = (1, 17); lower = (0, 22) ∷ [] } ∷ []

abbrev two : LevelText
two = record { levels = two_levels; listings = listed 27 2 0 ∷ listed 39 3 1 ∷ [] }

two-fault : first_fault two_names marked two_tokens two ≡ None
unfolding kind_is
two-fault = refl

two-given : levels_given two_names marked two ≡ record { names = pub_name ∷ sec_name ∷ []; below = [] ∷ (0 ∷ []) ∷ []; classes = (1, at_level 0) ∷ (2, at_level 1) ∷ [] }
two-given = refl

-- Faults --------------------------------------------------------------------------------------------------------------

-- level pub; level pub; var b: pub; The second pub comes before b, which is unknown.
twice-fault : first_fault (pub_name ∷ (98 ∷ []) ∷ []) marked (lone_level 0 0 (lone_level 11 0 (listing_at 22 1 0 [])))
    (record { levels = alone 6 0 ∷ alone 17 0 ∷ []; listings = listed 22 1 0 ∷ [] }) ≡ Some (Same 17)
unfolding kind_is
twice-fault = refl

-- level pub; var a: pub; var a: pub;
listed_twice-fault : first_fault (pub_name ∷ a_name ∷ []) marked (lone_level 0 0 (listing_at 11 1 0 (listing_at 23 1 0 [])))
    (record { levels = alone 6 0 ∷ []; listings = listed 11 1 0 ∷ listed 23 1 0 ∷ [] }) ≡ Some (Same 27)
unfolding kind_is
listed_twice-fault = refl

-- level pub: pub;
above_itself-fault : first_fault (pub_name ∷ []) marked (sign_at k.Level 0 ∷ name_at 6 0 ∷ sign_at k.Colon 9 ∷ name_at 11 0 ∷ sign_at k.Semicolon 14 ∷ [])
    (record { levels = record { name = (0, 6); lower = (0, 11) ∷ [] } ∷ []; listings = [] }) ≡ Some (Unknown 11)
unfolding kind_is
above_itself-fault = refl

-- level pub; level sec; var sec: pub; A marker is listed.
marker_listed-fault : first_fault (pub_name ∷ sec_name ∷ []) marked (lone_level 0 0 (lone_level 11 1 (listing_at 22 1 0 [])))
    (record { levels = alone 6 0 ∷ alone 17 1 ∷ []; listings = listed 22 1 0 ∷ [] }) ≡ Some (Plain 17)
unfolding kind_is
marker_listed-fault = refl

-- level a; The program reads a.
marker_read-fault : first_fault (a_name ∷ []) marked (lone_level 0 0 []) (record { levels = alone 6 0 ∷ []; listings = [] }) ≡ Some (Plain 6)
unfolding kind_is
marker_read-fault = refl

-- level s; The program hides s.
marker_hidden-fault : first_fault (s_name ∷ []) marked (lone_level 0 0 []) (record { levels = alone 6 0 ∷ []; listings = [] }) ≡ Some (Plain 6)
unfolding kind_is
marker_hidden-fault = refl

-- nine levels, of which the last has its name at 78
nine-fault : first_fault [] marked []
    (record { levels = alone 6 0 ∷ alone 15 1 ∷ alone 24 2 ∷ alone 33 3 ∷ alone 42 4 ∷ alone 51 5 ∷ alone 60 6 ∷ alone 69 7 ∷ alone 78 8 ∷ []; listings = [] }) ≡ Some (Many 78)
nine-fault = refl

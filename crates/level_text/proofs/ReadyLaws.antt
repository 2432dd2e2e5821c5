-- The levels that a text without faults gives for a program are levels over the program's variables.
use Rattle.std.proofs.Common.{◌≡◌, ℕ, zero, suc, ◌+◌, ◌<◌, ◌≤◌, ◌==◌, List, [], ◌∷◌, ◌++◌, length, map, get_or, Bool, true, false, not, ◌||◌, if◌then◌else◌, Option, Some, None, refl, sym, ap, subst, ◌∙◌, arith, inl, inr, append_assoc, true≢false, All}
use Rattle.std.specs.List.{list_any, position_or_len}
use Rattle.std.specs.Str.{bytes_eq}
use Rattle.std.proofs.lemmas.Bool.{cases_Bool, ne_eqb, or_parts, and_from, and_parts}
use Rattle.std.proofs.lemmas.List.{length-map, length_push}
use Rattle.std.proofs.lemmas.List.Elements.{All-nil, All-cons, All-map, All-weaker, All-head, All-tail}
use Rattle.std.proofs.lemmas.List.Folds.{list_any-append}
use Rattle.std.proofs.lemmas.Slice.Eq.{bytes_eq-Decides}
use Rattle.cov_expr.specs.Term.{Term}
use Rattle.cov_expr.specs.Trees.{has_number}
use Rattle.cov_expr.specs.declared.expr.TheConstants.{HOLE}
use Rattle.cov_ast.specs.NameTables.{with_name}
use Rattle.cov_ast.specs.Syntax.{Parsed}
use Rattle.cov_ast.specs.WellFormed.{are_distinct}
use Rattle.cov_grammar.specs.declared.token.Token.{Token}
use Rattle.cov_grammar.specs.PlacedTrees.{Placed, Named}
use Rattle.cov_grammar.specs.Spells.{Is}
use Rattle.cov_text.specs.GivenTrees.{name_of}
use Rattle.cov_text.proofs.Summaries.{AreFine}
use Rattle.policy_class.specs.Resolved.{is_among, var_names}
use Rattle.level_text.specs.declared.fault.LevelFault.{LevelFault}
use Rattle.level_text.specs.declared.fault.LevelFault.TheVariants as kinds
use Rattle.level_text.specs.Lattice.{Levels, LevelClass, AreLevels, IsClassWithin}
use Rattle.level_text.specs.Inside.GivenBy.{ClassHasWords}
use Rattle.level_text.specs.Inside.NamedBelow.{IsChoiceBelow, AreNamedBelow}
use Rattle.level_text.specs.TextTrees.{Level, Listing, LevelText}
use Rattle.level_text.specs.TextGrammar.{levels, level_text}
use Rattle.level_text.specs.TextFaults.{in_level_text, sooner, least_place, failing, first_failing, first_again, named_again, unknown_lower, unknown_level, unknown_variable, levels_of_listing, other_level, declared_levels, variables_of, fault_or, past_most, first_fault, level_id, variable_id, class_given, levels_given}
use Rattle.level_text.proofs.FindLaws.{present, front, found_position}
use Rattle.level_text.proofs.CalmLaws.{Every, ids_below}
use Rattle.level_text.proofs.ScanLaws.{IsListed, IsChosen, text_part}
use Rattle.level_text.proofs.ReadLaws.{levels_few, names_are, tokens_are, read_spells, read_named}
use Rattle.level_text.specs.declared.read.ReadText.{ReadText}
use Rattle.level_text.specs.Inside.Trees.{read_of, made_of}
use Rattle.level_text.specs.TextViews as views
use Rattle.cov_expr.specs.declared.limits.TheConstants.{MOST_BYTES}
use Rattle.cov_text.specs.Text.{IsText, names_of}
use Rattle.cov_text.proofs.WordLaws.{names_few, words_fine}

-- No fault --------------------------------------------------------------------------------------------------------

none_left : (a b : Option ℕ) → sooner a b ≡ None → a ≡ None
none_left None b h = refl
none_left (Some x) None h = cc
none_left (Some x) (Some y) h = cc

none_right : (a b : Option ℕ) → sooner a b ≡ None → b ≡ None
none_right None b h = h
none_right (Some x) None h = refl
none_right (Some x) (Some y) h = cc

or_none : (kind : ℕ → LevelFault) (o : Option ℕ) (rest : Option LevelFault) → fault_or kind o rest ≡ None → (o ≡ None) × (rest ≡ None)
or_none kind None rest h = (refl, h)
or_none kind (Some x) rest h = cc

least_none : {A : Type 0} (f : A → Option ℕ) (xs : List A) → least_place f xs ≡ None → All (λ x. f x ≡ None) xs
least_none f [] h = All-nil (λ x. f x ≡ None)
least_none f (x ∷ xs) h = All-cons (λ x. f x ≡ None) x xs (none_left (f x) (least_place f xs) h) (least_none f xs (none_right (f x) (least_place f xs) h))

passes : (test : ℕ → Bool) (n : Named) → failing test n ≡ None → test n.0 ≡ true
passes test n h = by (test n.0) h
  where
    by : (b : Bool) → (if b then None else Some n.1) ≡ None → b ≡ true
    by true e = refl
    by false e = cc

all_pass : (test : ℕ → Bool) (ns : List Named) → first_failing test ns ≡ None → All (λ n. test n.0 ≡ true) ns
all_pass test ns h = All-weaker (λ n. failing test n ≡ None) (λ n. test n.0 ≡ true) (passes test) ns (least_none (failing test) ns h)

-- Names that differ -------------------------------------------------------------------------------------------------

bytes_apart : (a b : List ℕ) → bytes_eq a b ≡ false → bytes_eq b a ≡ false
bytes_apart a b h = elim (cases_Bool (bytes_eq b a)) [
  | inl e ↦ let same : a ≡ b = sym ((bytes_eq-Decides b a).0 e) in absurd (true≢false (sym ((bytes_eq-Decides a b).1 same) ∙ h))
  | inr e ↦ e
]

module _ (names : List (List ℕ)) where
  abbrev text : Named → List ℕ
  text n = name_of names n.0

  -- texts that aren't among those before
  abbrev Fresh : (before : List (List ℕ)) → List Named → Type 0
  Fresh before [] = Unit {0}
  Fresh before (n ∷ ns) = (is_among before (text n) ≡ false) × Fresh before ns

  -- they are among neither part
  fresh_parts : (before : List (List ℕ)) (x : List ℕ) (ns : List Named) → Fresh (before ++ x ∷ []) ns → Fresh before ns × (list_any (bytes_eq x) (map text ns) ≡ false)
  fresh_parts before x [] h = (tt, refl)
  fresh_parts before x (n ∷ ns) h =
      let parts = or_parts (is_among before (text n)) (bytes_eq (text n) x || false) (sym (list_any-append (bytes_eq (text n)) before (x ∷ [])) ∙ h.0) in
      let other = or_parts (bytes_eq (text n) x) false parts.1 in
      let rest = fresh_parts before x ns h.1 in
      ((parts.0, rest.0), ap (λ b. b || list_any (bytes_eq x) (map text ns)) (bytes_apart (text n) x other.0) ∙ rest.1)

  not_again : (b : Bool) (at : ℕ) → (if b then Some at else None) ≡ None → b ≡ false
  not_again true at h = cc
  not_again false at h = refl

  -- no name comes again
  again_none : (before : List (List ℕ)) (ns : List Named) → first_again names before ns ≡ None → (are_distinct bytes_eq (map text ns) ≡ true) × Fresh before ns
  again_none before [] h = (refl, tt)
  again_none before (n ∷ ns) h =
      let here : Option ℕ = if is_among before (text n) then Some n.1 else None in
      let new = not_again (is_among before (text n)) n.1 (none_left here (first_again names (with_name before (text n)) ns) h) in
      let more : with_name before (text n) ≡ before ++ text n ∷ [] = ap (λ b. if b then before else before ++ text n ∷ []) new in
      let rest = again_none (before ++ text n ∷ []) ns (ap (λ bs. first_again names bs ns) (sym more) ∙ none_right here (first_again names (with_name before (text n)) ns) h) in
      let parts = fresh_parts before (text n) ns rest.1 in
      (and_from (not (list_any (bytes_eq (text n)) (map text ns))) (are_distinct bytes_eq (map text ns)) (ap not parts.1) rest.0, (new, parts.0))

  module _ (p : Parsed) where
    abbrev is_known : ℕ → Type 0
    is_known n = is_among (var_names p) (name_of names n) ≡ true

    -- a known variable has an id
    id_below : (n : ℕ) → is_known n → variable_id names p n < length p.vars
    id_below n h = let less = present (bytes_eq (name_of names n)) (var_names p) h in omega (arith, length-map p.vars (λ v. v.name))

    -- and names that differ have ids that differ
    ids_differ : (m n : ℕ) → is_known m → is_known n → bytes_eq (name_of names m) (name_of names n) ≡ false → (variable_id names p m == variable_id names p n) ≡ false
    ids_differ m n hm hn apart = ne_eqb (variable_id names p m) (variable_id names p n) (λ e.
        let first = (bytes_eq-Decides (name_of names m) _).0 (found_position (bytes_eq (name_of names m)) (var_names p) [] hm) in
        let second = (bytes_eq-Decides (name_of names n) _).0 (found_position (bytes_eq (name_of names n)) (var_names p) [] hn) in
        let same : name_of names m ≡ name_of names n = first ∙ ap (λ i. get_or (var_names p) i []) e ∙ sym second in
        true≢false (sym ((bytes_eq-Decides (name_of names m) (name_of names n)).1 same) ∙ apart))

    module _ (t : LevelText) where
      abbrev given : Listing → ℕ × LevelClass
      given c = (variable_id names p c.var.0, class_given names p t c.level c.choice)

      apart_none : (c : Listing) (cs : List Listing) → is_known c.var.0 → All (λ c. is_known c.var.0) cs → list_any (bytes_eq (text c.var)) (map (λ c. text c.var) cs) ≡ false
          → list_any (λ d. variable_id names p c.var.0 == d.0) (map given cs) ≡ false
      apart_none c [] h all none = refl
      apart_none c (d ∷ cs) h all none =
          let parts = or_parts (bytes_eq (text c.var) (text d.var)) (list_any (bytes_eq (text c.var)) (map (λ c. text c.var) cs)) none in
          let here = ids_differ c.var.0 d.var.0 h (All-head (λ (c : Listing). is_known c.var.0) d cs all) parts.0 in
          ap (λ b. b || list_any (λ d. variable_id names p c.var.0 == d.0) (map given cs)) here ∙ apart_none c cs h (All-tail (λ (c : Listing). is_known c.var.0) d cs all) parts.1

      ids_distinct : (cs : List Listing) → All (λ c. is_known c.var.0) cs → are_distinct bytes_eq (map (λ c. text c.var) cs) ≡ true → are_distinct (λ c d. c.0 == d.0) (map given cs) ≡ true
      ids_distinct [] all h = refl
      ids_distinct (c ∷ cs) all h =
          let parts = and_parts (not (list_any (bytes_eq (text c.var)) (map (λ c. text c.var) cs))) (are_distinct bytes_eq (map (λ c. text c.var) cs)) h in
          let none = not_true (list_any (bytes_eq (text c.var)) (map (λ c. text c.var) cs)) parts.0 in
          and_from (not (list_any (λ d. variable_id names p c.var.0 == d.0) (map given cs))) (are_distinct (λ c d. c.0 == d.0) (map given cs))
          (ap not (apart_none c cs (All-head (λ (c : Listing). is_known c.var.0) c cs all) (All-tail (λ (c : Listing). is_known c.var.0) c cs all) none))
          (ids_distinct cs (All-tail (λ (c : Listing). is_known c.var.0) c cs all) parts.1)
        where
          not_true : (b : Bool) → not b ≡ true → b ≡ false
          not_true true e = cc
          not_true false e = refl

-- Levels ---------------------------------------------------------------------------------------------------------------

abbrev place_in : List ℕ → ℕ → ℕ
place_in declared n = position_or_len (λ m. m == n) declared

-- levels behind a colon are earlier
earlier_in : (declared before : List ℕ) (vs : List Level) → declared ≡ before ++ map (λ v. v.name.0) vs → unknown_lower before vs ≡ None
    → (b : ℕ) → All (λ a. a < length before + b) (get_or (map (λ v. map (λ n. place_in declared n.0) v.lower) vs) b [])
earlier_in declared before [] e h b = All-nil (λ (a : ℕ). a < length before + b)
earlier_in declared before (v ∷ vs) e h zero =
    let first = none_left (first_failing (has_number before) v.lower) (unknown_lower (before ++ v.name.0 ∷ []) vs) h in
    All-map (λ (a : ℕ). a < length before + 0) (λ n. place_in declared n.0) v.lower
    (All-weaker (λ (n : Named). has_number before n.0 ≡ true) (λ (n : Named). place_in declared n.0 < length before + 0) lower v.lower (all_pass (has_number before) v.lower first))
  where
    lower : (n : Named) → has_number before n.0 ≡ true → place_in declared n.0 < length before + 0
    lower n k =
        let same : place_in declared n.0 ≡ place_in before n.0 = ap (λ d. place_in d n.0) e ∙ front (λ m. m == n.0) before (v.name.0 ∷ map (λ v. v.name.0) vs) k in
        let less = present (λ m. m == n.0) before k in
        omega arith
earlier_in declared before (v ∷ vs) e h (suc b) =
    let second = none_right (first_failing (has_number before) v.lower) (unknown_lower (before ++ v.name.0 ∷ []) vs) h in
    let long : length (before ++ v.name.0 ∷ []) + b ≡ length before + suc b = omega (arith, length_push before v.name.0) in
    subst (λ m. All (λ a. a < m) (get_or (map (λ v. map (λ n. place_in declared n.0) v.lower) vs) b [])) long
    (earlier_in declared (before ++ v.name.0 ∷ []) vs (e ∙ sym (append_assoc before (v.name.0 ∷ []) (map (λ v. v.name.0) vs))) second b)

-- a text has a level
pub some_level : (t : LevelText) (ts : List Token) → Is level_text t ts → 1 ≤ length t.levels
unfolding level_text levels
some_level t ts is =
    let s = is.1 in
    let inner = s.2.2 in
    let same : inner.0.0 ∷ inner.0.1 ≡ t.levels = inner.1 ∙ ap (λ (x : LevelText). x.levels) s.1 in
    subst (λ xs. 1 ≤ length xs) same (omega arith)

-- Classes --------------------------------------------------------------------------------------------------------------

unmapped : {A B : Type 0} (P : B → Type 0) (f : A → B) (xs : List A) → All P (map f xs) → All (λ x. P (f x)) xs
unmapped P f [] h = All-nil (λ x. P (f x))
unmapped P f (x ∷ xs) h = All-cons (λ x. P (f x)) x xs (All-head P (f x) (map f xs) h) (unmapped P f xs (All-tail P (f x) (map f xs) h))

mapped_twice : {A B C : Type 0} (f : B → C) (g : A → B) (xs : List A) → map f (map g xs) ≡ map (λ x. f (g x)) xs
mapped_twice f g [] = refl
mapped_twice f g (x ∷ xs) = ap (λ ys. f (g x) ∷ ys) (mapped_twice f g xs)

module _ (names : List (List ℕ)) (p : Parsed) (ts : List Token) (t : LevelText) where
  abbrev known : ℕ → Type 0
  known n = is_among (var_names p) (name_of names n) ≡ true

  abbrev AreDeclared : Listing → Type 0
  AreDeclared c = All (λ n. has_number (declared_levels t) n.0 ≡ true) (levels_of_listing c)

  level_below : (n : ℕ) → has_number (declared_levels t) n ≡ true → level_id t n < length (declared_levels t)
  level_below n h = present (λ m. m == n) (declared_levels t) h

  every_of : (ns : List Named) → All (λ n. known n.0) ns → Every known (map (λ x. x.0) ns)
  every_of [] h = tt
  every_of (n ∷ ns) h = (All-head (λ (n : Named). known n.0) n ns h, every_of ns (All-tail (λ (n : Named). known n.0) n ns h))

  class_within : (few : length names ≤ HOLE) (d : ℕ) (level : Named) (choice : Option (Placed Term × Named)) → All (λ n. has_number (declared_levels t) n.0 ≡ true) (level ∷ other_level choice)
      → IsChosen known (length names) few d choice → IsChoiceBelow (length names) choice → ClassHasWords (class_given names p t level choice) → IsClassWithin (length (declared_levels t)) (length p.vars) (class_given names p t level choice)
  class_within few d level None declared chosen below words = level_below level.0 (All-head (λ (n : Named). has_number (declared_levels t) n.0 ≡ true) level [] declared)
  class_within few d level (Some x) declared chosen below words =
      let P : Named → Type 0 = λ n. has_number (declared_levels t) n.0 ≡ true in (
        ids_below (length names) (length p.vars) few (variable_id names p) known (id_below names p) x.0.1 below chosen,
        words,
        level_below level.0 (All-head P level (x.1 ∷ []) declared),
        level_below x.1.0 (All-head P x.1 [] (All-tail P level (x.1 ∷ []) declared)),
      )

  pub levels_ready : (few : length names ≤ HOLE) → AreFine (length names) ts → Is level_text t ts → AreNamedBelow (length names) ts t → first_fault names p ts t ≡ None
      → All (λ c. ClassHasWords c.1) (levels_given names p t).classes → AreLevels (length p.vars) (levels_given names p t)
  levels_ready few fine is below none words =
      let n = length names in
      let past = or_none kinds.Many (past_most t) _ none in
      let same = or_none kinds.Same (named_again names t) _ past.1 in
      let unknown = or_none kinds.Unknown (sooner (unknown_lower [] t.levels) (sooner (unknown_level t) (unknown_variable names p (variables_of ts)))) _ same.1 in
      let lower = none_left (unknown_lower [] t.levels) (sooner (unknown_level t) (unknown_variable names p (variables_of ts))) unknown.0 in
      let others = none_right (unknown_lower [] t.levels) (sooner (unknown_level t) (unknown_variable names p (variables_of ts))) unknown.0 in
      let level = none_left (unknown_level t) (unknown_variable names p (variables_of ts)) others in
      let variable = none_right (unknown_level t) (unknown_variable names p (variables_of ts)) others in
      let first = first_again names [] (map (λ v. v.name) t.levels) in
      let second = first_again names [] (map (λ c. c.var) t.listings) in
      let levels_differ = (again_none names [] (map (λ v. v.name) t.levels) (none_left first second same.0)).0 in
      let listings_differ = (again_none names [] (map (λ c. c.var) t.listings) (none_right first second same.0)).0 in
      let every = every_of (variables_of ts) (all_pass (λ m. is_among (var_names p) (name_of names m)) (variables_of ts) variable) in
      let parts = text_part known n few is.0 t ts is.1 every fine in
      let declared =
      All-weaker (λ (c : Listing). first_failing (has_number (declared_levels t)) (levels_of_listing c) ≡ None) AreDeclared (λ c. all_pass (has_number (declared_levels t)) (levels_of_listing c)) t.listings
      (least_none (λ c. first_failing (has_number (declared_levels t)) (levels_of_listing c)) t.listings level) in
      let of_words = unmapped (λ (c : ℕ × LevelClass). ClassHasWords c.1) (given names p t) t.listings words in
      let long : length (declared_levels t) ≡ length (levels_given names p t).names = length-map t.levels (λ v. v.name.0) ∙ sym (length-map t.levels (λ v. name_of names v.name.0)) in
      let within : All (λ (c : ℕ × LevelClass). IsClassWithin (length (declared_levels t)) (length p.vars) c.1) (map (given names p t) t.listings) =
      All-map (λ (c : ℕ × LevelClass). IsClassWithin (length (declared_levels t)) (length p.vars) c.1) (given names p t) t.listings
      (λ i d lt. class_within few is.0 (get_or t.listings i d).level (get_or t.listings i d).choice (declared i d lt) (parts i d lt).1 (below.listings i d lt).1 (of_words i d lt)) in
      let knows = All-weaker (IsListed known n few is.0) (λ (c : Listing). known c.var.0) (λ c h. h.0) t.listings parts in
      record {
        some = let some = some_level t ts is in omega (arith, length-map t.levels (λ v. name_of names v.name.0), some);
        few = let most = levels_few names p ts t none in omega (arith, length-map t.levels (λ v. name_of names v.name.0), most);
        names_differ = ap (are_distinct bytes_eq) (sym (mapped_twice (text names) (λ v. v.name) t.levels)) ∙ levels_differ;
        complete = length-map t.levels (λ v. map (λ m. level_id t m.0) v.lower) ∙ sym (length-map t.levels (λ v. name_of names v.name.0));
        earlier = λ b. let none : 0 + b ≡ b = omega arith in
            subst (λ m. All (λ a. a < m) (get_or (levels_given names p t).below b [])) none (earlier_in (declared_levels t) [] t.levels refl lower b);
        of_variables = All-map (λ (c : ℕ × LevelClass). c.0 < length p.vars) (given names p t) t.listings (All-weaker (λ (c : Listing). known c.var.0) (λ (c : Listing). variable_id names p c.var.0 < length p.vars) (λ c h. id_below names p c.var.0 h) t.listings knows);
        of_levels = subst (λ m. All (λ (c : ℕ × LevelClass). IsClassWithin m (length p.vars) c.1) (map (given names p t) t.listings)) long within;
        listed_once = ids_distinct names p t t.listings knows (ap (are_distinct bytes_eq) (sym (mapped_twice (text names) (λ c. c.var) t.listings)) ∙ listings_differ);
      }

-- Levels that were read of a text can be checked.
pub read_ready : (text : List ℕ) (short : length text ≤ MOST_BYTES) (r : ReadText) (h : (t : LevelText) × IsText level_text in_level_text text t × (read_of r ≡ made_of text t)) (p : Parsed) (ws : List Token) → ws ≡ r.tokens
    → first_fault r.names p ws (views.level_text r.text) ≡ None → (l : Levels) → l ≡ levels_given r.names p (views.level_text r.text) → All (λ c. ClassHasWords c.1) l.classes → AreLevels (length p.vars) l
read_ready text short r h p ws same none l made words =
    let t = views.level_text r.text in
    let is = read_spells text short r h in
    let names = names_are text short r h in
    let tokens = same ∙ tokens_are text short r h in
    let few = subst (λ ns. length ns ≤ HOLE) (sym names) (names_few text is.tokens.lexes short) in
    let fine = subst (λ ns. AreFine (length ns) ws) (sym names) (subst (AreFine (length (names_of text))) (sym tokens) (words_fine text is.tokens.lexes)) in
    let spelled = subst (Is level_text t) (sym tokens) is.spelled in
    subst (AreLevels (length p.vars)) (sym made)
    (levels_ready r.names p ws t few fine spelled (read_named text short r h ws same) none (subst (λ (x : Levels). All (λ (c : ℕ × LevelClass). ClassHasWords c.1) x.classes) made words))

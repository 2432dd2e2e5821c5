-- The lines on a program and after each replaced thread, one after another.
use Rattle.std.proofs.Common.{◌≡◌, ℕ, ◌+◌, ◌-◌, ◌<◌, ◌≤◌, List, [], ◌∷◌, ◌++◌, drop, length, map, set, refl, sym, ◌∙◌, ap, subst, arith, append_assoc, Option, Some, Result, Ok, Err, IsErrAnd, IsTrue, All}
use Rattle.std.specs.Prelude.{OnErr, remove, slice_get}
use Rattle.std.proofs.lemmas.List.{get_or-map, length-map, map-set, set-get_or}
use Rattle.std.proofs.lemmas.List.Elements.{All-get_or}
use Rattle.std.proofs.lemmas.List.Sums.{sum_by-append, sum_by-cons, sum_by_push}
use Rattle.cov_ast.specs.Obligations.{first_false}
use Rattle.cov_ast.specs.Syntax.{Thread, Program}
use Rattle.cov_ast.specs.View as view
use Rattle.cov_ast.specs.declared.decl.ThreadDecl.{ThreadDecl}
use Rattle.mode_compat.specs.Compatible.{no_thread, numbered, threads_of}
use Rattle.mode_compat.specs.Declared.{declaration_obligations}
use Rattle.policy_class.specs.Resolved.{is_among}
use Rattle.thread_swap.specs.Judges.{Judging, Passes, Said, risen}
use Rattle.thread_swap.specs.Replacements.{AreAlike, IsNamed, IsReplacement, thread_named}
use Rattle.thread_swap.specs.SwapLines.{all_checked, line_on, lines_behind, opened, put_in, rise}
use Rattle.thread_swap.specs.Swaps.{all_said, due, judged_together, settled, settled_by, unless_refused, verdict_on}
use Rattle.thread_swap.specs.declared.line.Line.{Line}
use Rattle.thread_swap.proofs.BoundLaws.{taken}
use Rattle.thread_swap.proofs.NamedLaws.{named_inside, named_there}

-- Judges that say the same -------------------------------------------------------------------------------------------

module _ (j k : Judging) (h : Passes j k) (p : Program) where
  same_said : all_said k p ≡ all_said j p
  same_said = λ i. map (λ t. h.says i p.vars p.locks t (numbered p t)) (threads_of p)

  pub same_verdict : verdict_on k p ≡ verdict_on j p
  same_verdict = λ i. unless_refused (first_false (declaration_obligations p)) (judged_together (same_said i))

  pub same_settled : (answers : List (Option Said)) → settled k p answers ≡ settled j p answers
  same_settled answers = λ i. settled_by (first_false (declaration_obligations p)) answers (same_said i)

  pub same_line : (answers : List (Option Said)) (count : ℕ) → line_on k p answers count ≡ line_on j p answers count
  same_line answers count = ap (λ v. record { verdict = v; checked = rise count (due p answers) }) same_verdict

-- Programs with replaced threads ------------------------------------------------------------------------------------

-- A program is like one of which a thread is replaced by one of its name.
pub put_alike : (p q : Program) (d : Thread) → AreAlike p q → IsNamed p d → AreAlike p (put_in q d)
put_alike p q d alike named =
    let there : IsNamed q d = subst (λ names. IsTrue (is_among names d.name)) (sym alike.names) named in
    let t = thread_named q d.name in
    let names = map (λ (u : Thread). u.name) q.threads in
    let stay : map (λ (u : Thread). u.name) (set q.threads t d) ≡ names =
    map-set (λ (u : Thread). u.name) q.threads t d
    ∙ ap (λ n. set names t n) (named_there q d there ∙ sym (get_or-map (λ (u : Thread). u.name) q.threads t no_thread [] (named_inside q d there)))
    ∙ set-get_or names t [] in
    record { version = alike.version; vars = alike.vars; locks = alike.locks; names = stay ∙ alike.names }

pub alike_self : (p : Program) → AreAlike p p
alike_self p = record { version = refl; vars = refl; locks = refl; names = refl }

pub named_alike : (p q : Program) (d : Thread) → AreAlike p q → IsNamed p d → IsNamed q d
named_alike p q d alike named = subst (λ names. IsTrue (is_among names d.name)) (sym alike.names) named

-- Counts -------------------------------------------------------------------------------------------------------------

pub risen_by_rise : (count by : ℕ) → risen count by - count ≡ rise count by
risen_by_rise count by = omega arith

pub risen_later : (count by : ℕ) → count ≤ risen count by
risen_later count by = omega arith

-- the sum with one line more
pub checked_more : (made : List Line) (line : Line) → all_checked (made ++ line ∷ []) ≡ all_checked made + line.checked
checked_more made line = sum_by_push (λ (l : Line). l.checked) made line

pub checked_append : (made rest : List Line) → all_checked (made ++ rest) ≡ all_checked made + all_checked rest
checked_append made rest = sum_by-append (λ (l : Line). l.checked) made rest

-- the sum with one line in front
checked_first : (line : Line) (rest : List Line) → all_checked (line ∷ rest) ≡ line.checked + all_checked rest
checked_first line rest = sum_by-cons (λ (l : Line). l.checked) line rest

-- a count that has risen by what the lines so far tell
pub count_more : (start count new due : ℕ) (made : List Line) (line : Line) → count ≡ start + all_checked made → new ≡ risen count due → line.checked ≡ rise count due
    → new ≡ start + all_checked (made ++ line ∷ [])
count_more start count new due made line before after is =
    let total = checked_more made line in omega (arith, total, before, after, is)

-- Where memory runs out, the count rose by at most what all lines tell.
pub count_within : (start count new due n : ℕ) (made rest : List Line) (line : Line) → count ≡ start + all_checked made → n ≤ due → new ≡ risen count n
    → line.checked ≡ rise count due → new ≤ start + all_checked (made ++ line ∷ rest)
count_within start count new due n made rest line before few after is =
    let total = checked_append made (line ∷ rest) in let first = checked_first line rest in omega (arith, total, first, before, few, after, is)

-- Lines ----------------------------------------------------------------------------------------------------------------

-- one line more
pub lines_more : (made all : List Line) (line : Line) (rest : List Line) → made ++ line ∷ rest ≡ all → (made ++ line ∷ []) ++ rest ≡ all
lines_more made all line rest h = append_assoc made (line ∷ []) rest ∙ h

-- the next of some replacements is one
pub next_replacement : (p : Program) (ds rest : List ThreadDecl) (i : ℕ) (d : ThreadDecl) → i < length ds → rest ≡ drop i ds → slice_get rest 0 ≡ Some d
    → All (IsReplacement p) (map view.thread ds) → IsReplacement p (view.thread d)
next_replacement p ds rest i d inside left first fit =
    let is = taken ds rest i d inside left first in
    subst (IsReplacement p) (get_or-map view.thread ds i d (view.thread d) inside ∙ ap view.thread is)
    (All-get_or (IsReplacement p) (map view.thread ds) i (view.thread d) (omega (arith, inside, length-map ds view.thread)) fit)

-- the first of what is left, and the others
pub next_first : (rest : List ThreadDecl) (d : ThreadDecl) → slice_get rest 0 ≡ Some d → map view.thread rest ≡ view.thread d ∷ map view.thread (remove rest 0)
next_first [] d first = cc
next_first (x ∷ rest) d first = let same : x ≡ d = cc in ap (λ y. view.thread y ∷ map view.thread rest) same

-- what is said where memory ran out
pub on_failed : {X E : Type 0} (P : Type 0) (r : Result X E) (fault : E) → IsErrAnd r (λ f. f ≡ fault) → P → OnErr r P
on_failed P (Ok x) fault e h = absurd e
on_failed P (Err f) fault e h = h

module _ (j k : Judging) (h : Passes j k) (p : Program) (answers : List (Option Said)) (count start : ℕ) (made all : List Line) (rest : List ThreadDecl) (d : ThreadDecl)
    (first : slice_get rest 0 ≡ Some d) (kept : made ++ lines_behind j p answers count (map view.thread rest) ≡ all) (before : count ≡ start + all_checked made) where
  abbrev pub next_program : Program
  next_program = put_in p (view.thread d)

  abbrev pub next_open : List (Option Said)
  next_open = opened p answers (view.thread d)

  next_kept : made ++ lines_behind j p answers count (view.thread d ∷ map view.thread (remove rest 0)) ≡ all
  next_kept = ap (λ ds. made ++ lines_behind j p answers count ds) (sym (next_first rest d first)) ∙ kept

  -- where memory ran out, the count rose by at most what all lines tell
  pub next_within : (new n : ℕ) → n ≤ due next_program next_open → new ≡ risen count n → new ≤ start + all_checked all
  next_within new n few after =
      subst (λ xs. new ≤ start + all_checked xs) next_kept
      (count_within start count new (due next_program next_open) n made
      (lines_behind j next_program (settled j next_program next_open) (risen count (due next_program next_open)) (map view.thread (remove rest 0)))
      (line_on j next_program next_open count) before few after refl)

  -- the lines with one more
  pub lines_kept : (q : Program) (answers' : List (Option Said)) (count' : ℕ) (new : List Line) (line : Line) (left : List ThreadDecl) → left ≡ remove rest 0
      → q ≡ next_program → answers' ≡ settled k next_program next_open → count' ≡ risen count (due next_program next_open)
      → line ≡ line_on k next_program next_open count → new ≡ made ++ line ∷ []
      → new ++ lines_behind j q answers' count' (map view.thread left) ≡ all
  lines_kept q answers' count' new line left gone program settles counted is pushed =
      let line_is : line ≡ line_on j next_program next_open count = is ∙ same_line j k h next_program next_open count in
      let answers_are : answers' ≡ settled j next_program next_open = settles ∙ same_settled j k h next_program next_open in
      ap (λ xs. xs ++ lines_behind j q answers' count' (map view.thread left)) pushed
      ∙ (λ i. (made ++ line_is i ∷ []) ++ lines_behind j (program i) (answers_are i) (counted i) (map view.thread (gone i)))
      ∙ lines_more made all (line_on j next_program next_open count)
      (lines_behind j next_program (settled j next_program next_open) (risen count (due next_program next_open)) (map view.thread (remove rest 0))) next_kept

-- What is printed is read back to the same program, places aside, and what is printed in version 2 to the program there.
use Rattle.std.proofs.Common.{◌≡◌, ℕ, ◌≤◌, List, [], ◌∷◌, ◌++◌, length, map, flat_map, codes, refl, sym, ap, ap₂, subst, ◌∙◌, arith}
use Rattle.cov_expr.specs.declared.limits.TheConstants.{MOST_BYTES}
use Rattle.cov_expr.specs.declared.expr.TheConstants.{HOLE}
use Rattle.cov_grammar.specs.PlacedTrees.{Program}
use Rattle.cov_grammar.specs.Grammar.{program}
use Rattle.cov_ast.specs.Syntax as s
use Rattle.cov_ast.specs.Ready as ready
use Rattle.cov_ast.specs.Ready.{Use, uses_in_stm, uses_in_block, uses_in_class, uses_in_lock, uses_in_thread, uses_in_declarations}
use Rattle.cov_ast.specs.declared.parsed.NameUse.{NameUse}
use Rattle.cov_text.specs.Limits.{in_program}
use Rattle.cov_text.specs.Text.{lexed_of, words_of, numbered_of, names_of, IsText, program_of}
use Rattle.cov_text.specs.Uses.{uses_of}
use Rattle.cov_text.specs.GivenTrees.{var_of, lock_of, thread_of, parsed_of}
use Rattle.cov_text.proofs.NamesInOrder.{uses_in_order}
use Rattle.cov_print.specs.Spelling as spec
use Rattle.cov_print.specs.Unplaced.{unplaced, unplaced_stm, unplaced_block, unplaced_var, unplaced_lock, unplaced_thread, unplaced_use}
use Rattle.cov_print.specs.ReadBack.{SpellsProgram, SpellsAgain, in_second, SpellsInSecond}
use Rattle.cov_print.proofs.Declarations.{seen_program, second}
use Rattle.cov_print.proofs.ReadBack as back

pub map_map : {A B C : Type 0} (f : A → B) (g : B → C) (xs : List A) → map g (map f xs) ≡ map (λ x. g (f x)) xs
map_map f g [] = refl
map_map f g (x ∷ xs) = ap (λ l. g (f x) ∷ l) (map_map f g xs)

flat_map_same : {A B C : Type 0} (f : A → B) (g : B → List C) (h : A → List C) → ((x : A) → g (f x) ≡ h x) → (xs : List A) → flat_map g (map f xs) ≡ flat_map h xs
flat_map_same f g h e [] = refl
flat_map_same f g h e (x ∷ xs) = λ i. e x i ++ flat_map_same f g h e xs i

-- Without places -----------------------------------------------------------------------------------------------

-- the spelling doesn't depend on places
mutual
  stm_spelled : (names : List (List ℕ)) (x : s.Stm) (margin : List ℕ) (ps : List s.Proof) → spec.stm names margin (unplaced_stm x) ps ≡ spec.stm names margin x ps
  stm_spelled names (s.branch e a b j) margin ps =
      ap₂ (λ x y. codes "if " ++ spec.whole names e ++ codes " {\n" ++ x ++ margin ++ codes "} else {\n" ++ y ++ margin ++ codes "}" ++ spec.stated names (codes " join ") j ++ spec.by names ps)
      (block_spelled names a (spec.deeper margin)) (block_spelled names b (spec.deeper margin))
  stm_spelled names (s.loop e j b) margin ps =
      ap (λ x. codes "while " ++ spec.whole names e ++ spec.stated names (codes " inv ") j ++ codes " {\n" ++ x ++ margin ++ codes "}" ++ spec.by names ps) (block_spelled names b (spec.deeper margin))
  stm_spelled names _ margin ps = refl

  block_spelled : (names : List (List ℕ)) (b : s.Block) (margin : List ℕ) → spec.block names margin (unplaced_block b) ≡ spec.block names margin b
  block_spelled names s.done margin = refl
  block_spelled names (s.more at x ps rest) margin = ap₂ (λ c d. margin ++ c ++ codes "\n" ++ d) (stm_spelled names x margin ps) (block_spelled names rest margin)

thread_spelled : (names : List (List ℕ)) (t : s.Thread) → spec.thread_lines names (unplaced_thread t) ≡ spec.thread_lines names t
thread_spelled names t = ap (λ b. codes "thread " ++ t.name ++ spec.modes names t.modes ++ codes " {\n" ++ b ++ codes "}\n") (block_spelled names t.body (spec.deeper []))

pub spelling_unplaced : (p : s.Parsed) → spec.spelling (unplaced p) ≡ spec.spelling p
spelling_unplaced p =
    ap₂ (λ a b. a ++ b)
    (ap₂ (λ a b. spec.version_line p.version ++ a ++ b) (flat_map_same unplaced_var (spec.var_line p.names) (spec.var_line p.names) (λ x. refl) p.vars) (flat_map_same unplaced_lock (spec.lock_line p.names) (spec.lock_line p.names) (λ x. refl) p.locks))
    (flat_map_same unplaced_thread (spec.thread_lines p.names) (spec.thread_lines p.names) (thread_spelled p.names) p.threads)

-- and neither do uses
mutual
  stm_uses : (x : s.Stm) (ps : List s.Proof) → uses_in_stm (unplaced_stm x) ps ≡ uses_in_stm x ps
  stm_uses (s.branch e a b j) ps = ap₂ (λ x y. ready.uses_in e ++ x ++ y ++ ready.uses_in_state j ++ flat_map ready.uses_in_proof ps) (block_uses a) (block_uses b)
  stm_uses (s.loop e j b) ps = ap (λ x. ready.uses_in e ++ ready.uses_in_state j ++ x ++ flat_map ready.uses_in_proof ps) (block_uses b)
  stm_uses _ ps = refl

  block_uses : (b : s.Block) → uses_in_block (unplaced_block b) ≡ uses_in_block b
  block_uses s.done = refl
  block_uses (s.more at x ps rest) = ap₂ (λ c d. c ++ d) (stm_uses x ps) (block_uses rest)

pub uses_unplaced : (p : s.Parsed) → uses_in_declarations (unplaced p) ≡ uses_in_declarations p
uses_unplaced p =
    ap₂ (λ a b. a ++ b)
    (ap₂ (λ a b. a ++ b) (flat_map_same unplaced_var (λ v. uses_in_class v.class) (λ v. uses_in_class v.class) (λ x. refl) p.vars) (flat_map_same unplaced_lock uses_in_lock uses_in_lock (λ x. refl) p.locks))
    (flat_map_same unplaced_thread uses_in_thread uses_in_thread (λ x. ap (λ u. ready.uses_in_modes x.modes ++ u) (block_uses x.body)) p.threads)

-- Declarations and uses ----------------------------------------------------------------------------------------

abbrev pub Seen : Type 0
Seen = ℕ × (List s.Var × (List s.Lock × List s.Thread))

-- the program of declarations without places
abbrev pub of_seen : List (List ℕ) → List NameUse → Seen → s.Parsed
of_seen names uses x = record { version = x.0; names = names; uses = uses; vars = x.1.0; locks = x.1.1.0; threads = x.1.1.1 }

seen_is : (names : List (List ℕ)) (uses : List NameUse) (p : Program) → unplaced (parsed_of names uses p) ≡ of_seen names (map unplaced_use uses) (seen_program names p)
seen_is names uses p = λ i. record {
  version = p.version;
  names = names;
  uses = map unplaced_use uses;
  vars = map_map (var_of names) unplaced_var p.vars i;
  locks = map_map (lock_of names) unplaced_lock p.locks i;
  threads = map_map (thread_of names) unplaced_thread p.threads i;
}

-- a use at no place
abbrev pub at_none : Use → NameUse
at_none u = record { name = u.name; lock = u.lock; at = 0 }

pub uses_are : (us : List NameUse) (vs : List Use) → map ready.use_of us ≡ vs → map unplaced_use us ≡ map at_none vs
uses_are us vs e = sym (map_map ready.use_of at_none us) ∙ ap (map at_none) e

-- uses of declarations that look alike are alike
uses_of_seen : (names : List (List ℕ)) (us vs : List NameUse) (p q : Program) → seen_program names p ≡ seen_program names q → uses_in_declarations (parsed_of names us p) ≡ uses_in_declarations (parsed_of names vs q)
uses_of_seen names us vs p q e =
    sym (uses_unplaced (parsed_of names us p)) ∙ ap uses_in_declarations (seen_is names us p) ∙ ap (λ x. uses_in_declarations (of_seen names [] x)) e
    ∙ sym (ap uses_in_declarations (seen_is names vs q)) ∙ uses_unplaced (parsed_of names vs q)

-- The law ------------------------------------------------------------------------------------------------------

-- what is printed of a program that has the declarations of a text's tree
of_made : (text : List ℕ) (tree made : Program) → IsText program in_program text tree → uses_in_declarations (program_of text made) ≡ uses_in_declarations (program_of text tree)
    → back.Back (names_of text) (spec.spelling (program_of text made)) made → SpellsProgram (spec.spelling (program_of text made)) (program_of text made)
of_made text tree made is declared b =
    let out = spec.spelling (program_of text made) in
    let again = b.tree_again in
    let few : length (names_of text) ≤ HOLE = omega (arith, b.names_few) in
    let few_again : length (names_of out) ≤ HOLE = omega (arith, b.names_few, ap length b.names_again) in
    let before = uses_in_order text few tree is in
    let behind = uses_in_order out few_again again b.is_text in
    let renamed : program_of out again ≡ parsed_of (names_of text) (uses_of (words_of out)) again = ap (λ ns. parsed_of ns (uses_of (words_of out)) again) b.names_again in
    let alike : uses_in_declarations (program_of out again) ≡ uses_in_declarations (program_of text tree) =
    ap uses_in_declarations renamed ∙ uses_of_seen (names_of text) (uses_of (words_of out)) (uses_of (words_of text)) again made b.seen_again ∙ declared in
    let uses : map unplaced_use (uses_of (words_of out)) ≡ map unplaced_use (uses_of (words_of text)) =
    uses_are (uses_of (words_of out)) (uses_in_declarations (program_of text tree)) (behind ∙ alike) ∙ sym (uses_are (uses_of (words_of text)) (uses_in_declarations (program_of text tree)) before) in
    record {
      tree = again;
      is_text = b.is_text;
      same =
          ap unplaced renamed ∙ seen_is (names_of text) (uses_of (words_of out)) again
          ∙ ap₂ (λ us x. of_seen (names_of text) us x) uses b.seen_again ∙ sym (seen_is (names_of text) (uses_of (words_of text)) made);
    }

-- what is written of the tree of a text is read back
back_of : (text : List ℕ) (tree : Program) → IsText program in_program text tree → length (spec.spelling (program_of text tree)) ≤ MOST_BYTES → back.Back (names_of text) (spec.spelling (program_of text tree)) tree
unfolding names_of words_of numbered_of
back_of text tree is short = back.reads_back text (lexed_of text) is.tokens.lexes tree is.spelled is.small (uses_of (words_of text)) short

-- and so is what is written of it in version 2
second_of : (text : List ℕ) (tree : Program) → IsText program in_program text tree → length (spec.spelling (program_of text (second tree))) ≤ MOST_BYTES
    → back.Back (names_of text) (spec.spelling (program_of text (second tree))) (second tree)
unfolding names_of words_of numbered_of
second_of text tree is short = back.reads_second text (lexed_of text) is.tokens.lexes tree is.spelled is.small (uses_of (words_of text)) short

-- what is printed of the tree of a text
of_text : (text : List ℕ) (tree : Program) → IsText program in_program text tree → length (spec.spelling (program_of text tree)) ≤ MOST_BYTES → SpellsProgram (spec.spelling (program_of text tree)) (program_of text tree)
of_text text tree is short = of_made text tree tree is refl (back_of text tree is short)

-- and of it in version 2
of_second : (text : List ℕ) (tree : Program) → IsText program in_program text tree → length (spec.spelling (in_second (program_of text tree))) ≤ MOST_BYTES
    → SpellsProgram (spec.spelling (in_second (program_of text tree))) (in_second (program_of text tree))
of_second text tree is short = of_made text tree (second tree) is refl (second_of text tree is short)

-- What is printed of a program that some text spells, spells it too.
pub spells_again : (p : s.Parsed) (printed : List ℕ) → printed ≡ spec.spelling p → SpellsAgain printed p
unfolding SpellsAgain
spells_again p printed e text h short =
    let same : spec.spelling (program_of text h.tree) ≡ printed = sym (spelling_unplaced (program_of text h.tree)) ∙ ap spec.spelling h.same ∙ spelling_unplaced p ∙ sym e in
    let r = of_text text h.tree h.is_text (subst (λ t. length t ≤ MOST_BYTES) (sym same) short) in
    subst (λ t. SpellsProgram t p) same (record { tree = r.tree; is_text = r.is_text; same = r.same ∙ h.same })

-- What is printed in version 2 of a program that some text spells, spells it there.
pub spells_in_second : (p : s.Parsed) → SpellsInSecond (spec.spelling (in_second p)) p
unfolding SpellsInSecond
spells_in_second p text h short =
    let q = program_of text h.tree in
    let same : spec.spelling (in_second q) ≡ spec.spelling (in_second p) =
    sym (spelling_unplaced (in_second q)) ∙ ap (λ x. spec.spelling (in_second x)) h.same ∙ spelling_unplaced (in_second p) in
    let r = of_second text h.tree h.is_text (subst (λ t. length t ≤ MOST_BYTES) (sym same) short) in
    subst (λ t. SpellsProgram t (in_second p)) same (record { tree = r.tree; is_text = r.is_text; same = r.same ∙ ap in_second h.same })

-- From the tree of a text of levels to what is answered.
use Rattle.std.proofs.Common.{◌≡◌, ℕ, ◌≤◌, List, [], length, Option, Some, None, refl, sym, ap, subst, ◌∙◌, Err}
use Rattle.std.specs.Prelude.{option_map}
use Rattle.std.proofs.lemmas.Option.{slice_get-get_or}
use Rattle.std.proofs.lemmas.Bool.{cases_lt}
use Rattle.std.proofs.Common.{inl, inr, get_or}
use Rattle.cov_expr.specs.declared.limits.TheConstants.{MOST_BYTES}
use Rattle.cov_ast.specs.Syntax.{Parsed}
use Rattle.cov_grammar.specs.declared.token.Token.{Token}
use Rattle.cov_grammar.specs.Spells.{Is}
use Rattle.cov_text.specs.declared.fault.ParseFault.{ParseFault}
use Rattle.cov_text.specs.Text.{IsText, names_of, words_of}
use Rattle.cov_text.proofs.WordLaws.{names_few}
use Rattle.level_text.specs.declared.read.ReadText.{ReadText}
use Rattle.level_text.specs.declared.fault.LevelFault.{LevelFault}
use Rattle.level_text.specs.declared.fault.LevelFault.TheVariants as kinds
use Rattle.level_text.specs.Inside.NamedBelow.{AreNamedBelow}
use Rattle.level_text.specs.Inside.Trees.{read_of, made_of}
use Rattle.level_text.specs.LevelReads.{Spells, Reads, fault_of_tree}
use Rattle.level_text.specs.TextFaults.{in_level_text, first_fault, fault_or, past_most, named_again, unknown_lower, unknown_level, unknown_variable, variables_of, first_barred, sooner}
use Rattle.level_text.specs.TextGrammar.{level_text}
use Rattle.level_text.specs.TextTrees.{Level, LevelText}
use Rattle.level_text.specs.TextViews as views
use Rattle.level_text.proofs.TextSummaries.{text_named}

-- what was read of a text
module _ (text : List ℕ) (short : length text ≤ MOST_BYTES) (r : ReadText) (h : (t : LevelText) × IsText level_text in_level_text text t × (read_of r ≡ made_of text t)) where
  tree_is : views.level_text r.text ≡ h.0
  tree_is = ap (λ x. x.tree) h.2

  pub names_are : r.names ≡ names_of text
  names_are = ap (λ x. x.names) h.2

  pub tokens_are : r.tokens ≡ words_of text
  tokens_are = ap (λ x. x.tokens) h.2

  pub read_spells : IsText level_text in_level_text text (views.level_text r.text)
  read_spells = subst (IsText level_text in_level_text text) (sym tree_is) h.1

  pub read_named : (ws : List Token) → ws ≡ r.tokens → AreNamedBelow (length r.names) ws (views.level_text r.text)
  read_named ws same =
      let is = read_spells in
      let tokens = same ∙ tokens_are in
      text_named text (names_few text is.tokens.lexes short) r.names ws (views.level_text r.text) is.tokens names_are tokens (subst (Is level_text (views.level_text r.text)) (sym tokens) is.spelled)

  pub read_fault : (p : Parsed) (ws : List Token) (o : Option LevelFault) → ws ≡ r.tokens → o ≡ first_fault r.names p ws (views.level_text r.text) → fault_of_tree text p (views.level_text r.text) ≡ o
  read_fault p ws o same e = sym (e ∙ (λ i. first_fault (names_are i) p ((same ∙ tokens_are) i) (views.level_text r.text)))

-- no first fault of a tree is one of its text, or the want of memory
IsOfTree : Option LevelFault → Type 0
IsOfTree o = ((f : ParseFault) → o ≡ Some (kinds.Text f) → ⊥)

module _ (kind : ℕ → LevelFault) (other : (n : ℕ) (f : ParseFault) → kind n ≡ kinds.Text f → ⊥) where
  or_of_tree : (o : Option ℕ) (rest : Option LevelFault) → IsOfTree rest → IsOfTree (fault_or kind o rest)
  unfolding IsOfTree
  or_of_tree None rest h = h
  or_of_tree (Some n) rest h = λ f e. let same : kind n ≡ kinds.Text f = cc in other n f same

pub fault_of : (names : List (List ℕ)) (p : Parsed) (ts : List Token) (t : LevelText) (f : ParseFault) → first_fault names p ts t ≡ Some (kinds.Text f) → ⊥
unfolding IsOfTree
fault_of names p ts t =
    or_of_tree kinds.Many (λ n f e. cc) (past_most t) _
    (or_of_tree kinds.Same (λ n f e. cc) (named_again names t) _
    (or_of_tree kinds.Unknown (λ n f e. cc) (sooner (unknown_lower [] t.levels) (sooner (unknown_level t) (unknown_variable names p (variables_of ts)))) _
    (or_of_tree kinds.Plain (λ n f e. cc) (first_barred names p (variables_of ts) t.levels) None (λ f e. cc))))

-- a fault of the tree is answered
pub fault_reads : (text : List ℕ) (p : Parsed) (t : LevelText) (fault : LevelFault) → Spells text p t → fault_of_tree text p t ≡ Some fault → Reads text p (Err fault)
fault_reads text p t (kinds.Text f) s e = absurd (fault_of (names_of text) p (words_of text) t f e)
fault_reads text p t (kinds.Many n) s e = (t, s, e)
fault_reads text p t (kinds.Same n) s e = (t, s, e)
fault_reads text p t (kinds.Unknown n) s e = (t, s, e)
fault_reads text p t (kinds.Plain n) s e = (t, s, e)
fault_reads text p t kinds.NoMemory s e = tt

-- without a fault there are no more levels than there may be
few_levels : (o : Option ℕ) (rest : Option LevelFault) → fault_or kinds.Many o rest ≡ None → o ≡ None
few_levels None rest h = refl
few_levels (Some n) rest h = cc

pub levels_few : (names : List (List ℕ)) (p : Parsed) (ts : List Token) (t : LevelText) → first_fault names p ts t ≡ None → length t.levels ≤ 8
levels_few names p ts t h = elim (cases_lt 8 (length t.levels)) [
  | inl lt ↦
      let d : Level = record { name = (0, 0); lower = [] } in
      let none : past_most t ≡ None = few_levels (past_most t) _ h in
      let some : past_most t ≡ Some (get_or t.levels 8 d).name.1 = ap (option_map (λ v. v.name.1)) (slice_get-get_or t.levels 8 d lt) in
      cc
  | inr le ↦ le
]

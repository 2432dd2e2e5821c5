-- Certificates that a search finds for a text that is read can stand in it: their numbers are words, and their variables have names.
use Rattle.std.proofs.Common.{◌≡◌, inl, inr, ℕ, zero, suc, ◌+◌, ◌*◌, ◌<◌, ◌≤◌, List, [], ◌∷◌, ◌++◌, length, map, flat_map, get_or, Bool, true, false, if◌then◌else◌, Ok, option_map, refl, sym, ap, ◌∙◌, subst, arith, length-append, All, eq-eqb}
use Rattle.std.proofs.lemmas.Bool.{cases_lt}
use Rattle.std.proofs.lemmas.List.{get_or_past, length-map}
use Rattle.std.proofs.lemmas.List.Elements.{All-cons, All-contains, All-head, All-nil, All-tail}
use Rattle.cov_expr.specs.declared.expr.TheConstants.{HOLE}
use Rattle.cov_expr.specs.declared.kind.Kind.{Kind}
use Rattle.cov_expr.specs.declared.kind.Kind.TheVariants as kinds
use Rattle.cov_expr.specs.declared.limits.TheConstants.{MOST_BYTES}
use Rattle.cov_expr.specs.Term.{Term, const, var, neg, bin}
use Rattle.cov_expr.specs.Words.{HasVarsBelow, HasWords}
use Rattle.cov_lex.specs.declared.token.Token as lexed
use Rattle.cov_lex.specs.Lexing.{tokens_of}
use Rattle.cov_grammar.specs.declared.token.Token.{Token}
use Rattle.cov_grammar.specs.PlacedTrees as t
use Rattle.cov_grammar.specs.Grammar.{program}
use Rattle.cov_grammar.specs.Spells.{Is}
use Rattle.cov_ast.specs.Declarations.{lock_at, no_lock}
use Rattle.cov_ast.specs.Plain.{plain}
use Rattle.cov_ast.specs.Syntax.{Cert, Parsed}
use Rattle.cov_ast.specs.Syntax as s
use Rattle.cov_ast.specs.WellFormed.{block_size, CertHasWords, IsCertInRange, IsTemplateBelow, IsWellFormed}
use Rattle.cov_text.specs.GivenTrees.{expr_of, lock_of}
use Rattle.cov_text.specs.Limits.{in_program}
use Rattle.cov_text.specs.Numbered as words
use Rattle.cov_text.specs.Text as text
use Rattle.cov_text.specs.Text.{IsText, lexed_of, names_of, numbered_of, words_of}
use Rattle.cov_text.specs.Versioned.{versioned}
use Rattle.cov_print.proofs.Written as w
use Rattle.cov_print.proofs.Written.{Word}
use Rattle.cov_print.proofs.Declarations.{lock_words, program_kept, program_words, thread_words, var_words}
use Rattle.cov_print.proofs.Keeps.{leaf, leaves, leaves_of, leaves_of_append}
use Rattle.cov_print.proofs.Operators.{IsFine}
use Rattle.cov_print.proofs.Readings.{known}
use Rattle.cov_print.proofs.SameNames.{tokens_few}
use Rattle.cov_print.proofs.Versions.{versioned_leaves}
use Rattle.mode_compat.specs.Compatible.{no_thread, numbered}
use Rattle.point_law.specs.After.{start}
use Rattle.policy_class.specs.Resolved.{lock_id, resolved, resolved_lock, resolved_term, resolved_var, var_id}
use Rattle.typing_law.specs.Counts.{entailment_count}
use Rattle.typing_law.specs.ThreadEntailments.{all_entailments, PlacedEntailment, reached, thread_entailments}
use Rattle.typing_law.specs.ThreadObligations.{thread_obligations}
use Rattle.cert_search.proofs.Sound.{search_sound}
use Rattle.annotate.specs.Annotated.{choices, IsChoice}
use Rattle.annotate.specs.AnnotatedText.{AreVariablesNamed, IsAsRead, name_number, unresolved_cert, unresolved_choice, unresolved_choices}
use Rattle.annotate.proofs.Changes.{AreNewProofs}
use Rattle.annotate.proofs.ChoiceLaws.{choices_are}
use Rattle.annotate.proofs.FormedLaws.{choices_below, choices_have_words}
use Rattle.annotate.proofs.NameLaws.{var_below}
use Rattle.annotate.proofs.ReadTexts.{read_as_read}
use Rattle.annotate.proofs.SmallEntailments.{AreSmall, body_small, IsSmall, small_take}
use Rattle.annotate.proofs.SmallNumbers.{class_numbered, IsNumbered}
use Rattle.annotate.proofs.SpeltCerts.{CertFits, IsNewProof}

-- Certificates -------------------------------------------------------------------------------------------------

module _ (p : Parsed) (named : AreVariablesNamed p) (small : length p.vars ≤ HOLE) where
  abbrev with_names : Term → Term
  with_names e = resolved_term (name_number p) (λ l. l) e

  var_fits : (x : ℕ) → x < length p.vars → known p.names (resolved_var (name_number p) (λ l. l) x) ≡ true
  var_fits x h = below (known p.names (resolved_var (name_number p) (λ l. l) x)) refl
    where
      below : (b : Bool) → known p.names (resolved_var (name_number p) (λ l. l) x) ≡ b → b ≡ true
      below true e = refl
      below false e = absurd (grind (arith, e, var_below p named small x h))

  term_fits : (e : Term) → HasVarsBelow e (length p.vars) → HasWords e → IsFine (known p.names) false (with_names e)
  term_fits (const n) h k = omega (arith, k)
  term_fits (var x) h k = var_fits x h
  term_fits (neg e) h k = term_fits e h k
  term_fits (bin op a b) h k = (term_fits a h.0 k.0, term_fits b h.1 k.1)

  template_fits : (e : Term) → IsTemplateBelow e (length p.vars) → HasWords e → IsFine (known p.names) true (with_names e)
  template_fits (const n) h k = omega (arith, k)
  template_fits (var x) (inl h) k = inl (var_fits x h)
  template_fits (var x) (inr h) k = inr (ap (λ b. if b then x else name_number p x) (eq-eqb x HOLE h) ∙ h)
  template_fits (neg e) h k = template_fits e h k
  template_fits (bin op a b) h k = (template_fits a h.0 k.0, template_fits b h.1 k.1)

  cert_fits : (locks : ℕ) (c : Cert) → IsNumbered 4294967295 c → IsCertInRange (length p.vars) locks c → CertHasWords c → CertFits (known p.names) (unresolved_cert p c)
  cert_fits locks s.auto i h k = tt
  cert_fits locks s.reflexive i h k = tt
  cert_fits locks s.ring i h k = tt
  cert_fits locks s.range i h k = tt
  cert_fits locks (s.hyp j) i h k = i
  cert_fits locks (s.absurdity j l) i h k = i
  cert_fits locks (s.and c d) i h k = (cert_fits locks c i.0 h.0 k.0, cert_fits locks d i.1 h.1 k.1)
  cert_fits locks (s.left c) i h k = cert_fits locks c i h k
  cert_fits locks (s.right c) i h k = cert_fits locks c i h k
  cert_fits locks (s.unpack j c) i h k = (i.0, cert_fits locks c i.1 h k)
  cert_fits locks (s.cases j c d) i h k = (i.0, cert_fits locks c i.1 h.0 k.0, cert_fits locks d i.2 h.1 k.1)
  cert_fits locks (s.have e c d) i h k = (term_fits e h.0 k.0, cert_fits locks c i.0 h.1 k.1, cert_fits locks d i.1 h.2 k.2)
  cert_fits locks (s.fwd j e c) i h k = (i.0, template_fits e h.0 k.0, cert_fits locks c i.1 h.1 k.1)
  cert_fits locks (s.rev j e c) i h k = (i.0, template_fits e h.0 k.0, cert_fits locks c i.1 h.1 k.1)
  cert_fits locks _ i h k = absurd i

-- Choices ------------------------------------------------------------------------------------------------------

module _ (depth : ℕ) (lt : depth ≤ 2) (p : Parsed) (formed : IsWellFormed (resolved p)) (read : IsAsRead p) (hidden : (l : ℕ) → length (lock_at (plain (resolved p)) l).hide ≤ 1048576) where
  few_vars : length p.vars ≤ HOLE
  few_vars = omega (arith, read.ready.limits.variables)

  body_size : (u : ℕ) → block_size (numbered (resolved p) u).body ≤ 2097152
  body_size u =
      elim (cases_lt u (length (resolved p).threads)) [
        | inl h ↦ omega (arith, (formed.bodies u no_thread h).small)
        | inr h ↦ subst (λ d. block_size d.body ≤ 2097152) (sym (get_or_past (resolved p).threads u no_thread h)) (omega arith)
      ]

  all_small : (gs : List PlacedEntailment) → AreSmall 6000000 2097153 gs → All (IsSmall 6000000 2097153) gs
  all_small [] h = All-nil (IsSmall 6000000 2097153)
  all_small (g ∷ gs) h = All-cons (IsSmall 6000000 2097153) g gs h.0 (all_small gs h.1)

  entailments_small : (u : ℕ) → All (IsSmall 6000000 2097153) (thread_entailments (resolved p) u)
  entailments_small u =
      let P = resolved p in
      let body = (numbered P u).body in
      let room : 2 * 2097152 + length (plain P).vars + 1048576 + 3 ≤ 6000000 = omega (arith, formed.limits.variables) in
      all_small (thread_entailments P u)
      (small_take 6000000 2097153 (entailment_count (reached (thread_obligations P u))) (all_entailments P u)
      (body_small (plain P) u 1048576 hidden 6000000 2097152 room body (start (plain P) u) (omega (arith, body_size u))))

  choice_new : (Q : Type 0) (u x : ℕ) (c : ℕ × Cert) → IsChoice depth (resolved p) u x c → IsCertInRange (length p.vars) (length p.locks) c.1 → CertHasWords c.1
      → IsNewProof (known p.names) Q (unresolved_choice p c)
  choice_new Q u x c h r k =
      let g = h.of in
      let small = All-contains (IsSmall 6000000 2097153) (thread_entailments (resolved p) u) g (entailments_small u) h.listed in
      let fits = search_sound depth g.entailment.hyps g.entailment.goal c.1 h.found in (
        omega (arith, small.low, h.number_is),
        cert_fits p read.named few_vars (length p.locks) c.1
            (class_numbered depth g.entailment.hyps g.entailment.goal c.1 4294967295 (omega (arith, small.few, lt)) fits.passes fits.free) r k,
      )

  each_new : (Q : Type 0) (u x : ℕ) (cs : List (ℕ × Cert)) → All (IsChoice depth (resolved p) u x) cs → All (λ c. IsCertInRange (length p.vars) (length p.locks) c.1) cs → All (λ c. CertHasWords c.1) cs
      → AreNewProofs (known p.names) Q (map (unresolved_choice p) cs)
  each_new Q u x [] h r k = tt
  each_new Q u x (c ∷ cs) h r k = (
    choice_new Q u x c (All-head (IsChoice depth (resolved p) u x) c cs h) (All-head (λ c. IsCertInRange (length p.vars) (length p.locks) c.1) c cs r) (All-head (λ c. CertHasWords c.1) c cs k),
    each_new Q u x cs (All-tail (IsChoice depth (resolved p) u x) c cs h) (All-tail (λ c. IsCertInRange (length p.vars) (length p.locks) c.1) c cs r) (All-tail (λ c. CertHasWords c.1) c cs k),
  )

  pub choices_new : (Q : Type 0) (u x : ℕ) → AreNewProofs (known p.names) Q (unresolved_choices depth p u x)
  choices_new Q u x =
      each_new Q u x (choices depth (resolved p) u x) (choices_are depth (resolved p) u x) (choices_below depth p formed u x) (choices_have_words depth (resolved p) formed u x)

-- What locks hide ----------------------------------------------------------------------------------------------

leaf_one : (j : Kind) (v : ℕ) → length (leaf j v) ≤ 1
leaf_one kinds.Name v = omega arith
leaf_one kinds.Hole v = omega arith
leaf_one _ v = omega arith

leaves_fewer : (ts : List Token) → length (leaves ts) ≤ length ts
leaves_fewer [] = omega arith
leaves_fewer (t ∷ ts) = omega (arith, leaves_fewer ts, leaf_one t.kind t.value, length-append (leaf t.kind t.value) (leaves ts))

append_leaves : (us vs : List Word) → length (leaves_of (us ++ vs)) ≡ length (leaves_of us) + length (leaves_of vs)
append_leaves us vs = ap length (leaves_of_append us vs) ∙ length-append (leaves_of us) (leaves_of vs)

more_leaves : (xs : List ℕ) → length xs ≤ length (leaves_of (flat_map (λ y. w.plain kinds.Comma ∷ (w.name y ∷ [])) xs))
more_leaves [] = omega arith
more_leaves (x ∷ xs) = omega (arith, more_leaves xs)

behind_leaves : (j : Kind) (xs : List ℕ) → length xs ≤ length (leaves_of (w.behind j xs))
behind_leaves j [] = omega arith
behind_leaves j (x ∷ xs) = omega (arith, more_leaves xs)

module _ (named : ℕ → Bool) where
  lock_leaves : (l : t.Lock) → length l.hide ≤ length (leaves_of (lock_words named l))
  lock_leaves l =
      let a = w.behind kinds.Nowrite l.nowrite in
      let b = w.behind kinds.Hide l.hide in
      let c = w.maybe named kinds.Inv (option_map expr_of l.inv) in
      let d = w.plain kinds.Semicolon ∷ [] in
      omega (arith, append_leaves (a ++ (b ++ c)) d, append_leaves a (b ++ c), append_leaves b c, behind_leaves kinds.Hide l.hide)

  module _ (names : List (List ℕ)) (f g : ℕ → ℕ) where
    hidden_few : (ls : List t.Lock) (i : ℕ) → length (get_or (map (resolved_lock f g) (map (lock_of names) ls)) i no_lock).hide ≤ length (leaves_of (flat_map (lock_words named) ls))
    hidden_few [] i = omega arith
    hidden_few (l ∷ ls) zero = omega (arith, length-map l.hide (resolved_var f g), lock_leaves l, append_leaves (lock_words named l) (flat_map (lock_words named) ls))
    hidden_few (l ∷ ls) (suc i) = omega (arith, hidden_few ls i, append_leaves (lock_words named l) (flat_map (lock_words named) ls))

  locks_leaves : (p : t.Program) → length (leaves_of (flat_map (lock_words named) p.locks)) ≤ length (leaves_of (program_words named p))
  locks_leaves p =
      let v = w.version p.version in
      let a = flat_map (var_words named) p.vars in
      let b = flat_map (lock_words named) p.locks in
      let c = flat_map (thread_words named) p.threads in
      omega (arith, append_leaves v (a ++ (b ++ c)), append_leaves a (b ++ c), append_leaves b c)

-- a text has no more names than bytes
leaves_short : (txt : List ℕ) (raw : List lexed.Token) → tokens_of txt ≡ Ok raw → length txt ≤ MOST_BYTES → (tree : t.Program) → Is program tree (versioned (words.words_of txt raw))
    → (named : ℕ → Bool) (names : List (List ℕ)) → length (leaves_of (program_words named tree)) ≤ 1048576
leaves_short txt raw lexes short tree is named names =
    let ts = words.words_of txt raw in
    let same = ap length ((program_kept named names tree (versioned ts) is).same) in
    omega (arith, short, tokens_few txt raw lexes, length-map raw (words.word_of txt (words.names_of txt raw)), leaves_fewer ts, ap length (versioned_leaves ts), same)

module _ (txt : List ℕ) (short : length txt ≤ MOST_BYTES) (tree : t.Program) (is : IsText program in_program txt tree) where
  leaves_few : length (leaves_of (program_words (known (names_of txt)) tree)) ≤ 1048576
  unfolding names_of words_of numbered_of
  leaves_few = leaves_short txt (lexed_of txt) is.tokens.lexes short tree is.spelled (known (names_of txt)) (names_of txt)

  abbrev given : Parsed
  given = text.program_of txt tree

  hidden_short : (l : ℕ) → length (lock_at (plain (resolved given)) l).hide ≤ 1048576
  hidden_short l =
      omega (arith, leaves_few, locks_leaves (known (names_of txt)) tree, hidden_few (known (names_of txt)) (names_of txt) (var_id given) (lock_id given) tree.locks l)

  pub found_new : IsWellFormed (resolved given) → (depth : ℕ) → depth ≤ 2 → (Q : Type 0) (u x : ℕ) → AreNewProofs (known (names_of txt)) Q (unresolved_choices depth given u x)
  found_new formed depth lt = choices_new depth lt given formed (read_as_read txt short tree is) hidden_short

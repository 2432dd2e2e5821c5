-- The tree of a text is of version 1 or 2, and one of version 1 puts nothing out: each token `output` of its text is foreign.
use Rattle.std.proofs.Common.{◌≡◌, ℕ, zero, suc, List, [], ◌∷◌, ◌++◌, map, Bool, true, false, if◌then◌else◌, Option, Some, None, ◌⊎◌, inl, inr, refl, sym, ap, subst, ◌∙◌}
use Rattle.std.specs.List.{All}
use Rattle.std.proofs.lemmas.List.Elements.{All-nil, All-cons, All-head, All-tail, All-map}
use Rattle.cov_expr.specs.declared.kind.Kind.{Kind}
use Rattle.cov_expr.specs.declared.kind.Kind.TheVariants as k
use Rattle.cov_grammar.specs.declared.token.Token.{Token}
use Rattle.cov_grammar.specs.LookAhead.{kind_is, has}
use Rattle.cov_grammar.specs.PlacedTrees.{Placed, Stm, Block, stms, Thread, Program, block}
use Rattle.cov_grammar.specs.PlacedTrees as t
use Rattle.cov_grammar.specs.Shapes.{Shape, rule, seq, alt, opt, many, act, placed, Each, Sense, Spells}
use Rattle.cov_grammar.specs.Grammar.{◌▸◌, ◌◂◌, sign, name, assigned, branched, looped, statement, braces, var_decl, lock_decl, thread_decl, version, version_of, program, body}
use Rattle.cov_grammar.specs.Spells.{Is, Within}
use Rattle.cov_grammar.proofs.Basics.{kind_itself, kind_one}
use Rattle.cov_grammar.proofs.Senses.{full_at}
use Rattle.cov_grammar.proofs.Samples.{Begins, first_at, first_ok}
use Rattle.cov_ast.specs.WellFormed.{IsSilent, IsSilentStm, IsOfVersion}
use Rattle.cov_text.specs.Versioned.{foreign, of_first, behind_version, versioned}
use Rattle.cov_text.specs.GivenTrees.{stm_of, block_of, stms_of, thread_of}
use Rattle.cov_text.specs.Text.{words_of, numbered_of}

-- Tokens without `output` --------------------------------------------------------------------------------------

abbrev pub HasNoOutput : List Token → Type 0
HasNoOutput [] = Unit {0}
HasNoOutput (t ∷ ts) = (t.kind ≡ k.Output → ⊥) × HasNoOutput ts

pub silent_left : (us vs : List Token) → HasNoOutput (us ++ vs) → HasNoOutput us
silent_left [] vs h = tt
silent_left (u ∷ us) vs h = (h.0, silent_left us vs h.1)

pub silent_right : (us vs : List Token) → HasNoOutput (us ++ vs) → HasNoOutput vs
silent_right [] vs h = h
silent_right (u ∷ us) vs h = silent_right us vs h.1

left_of : (us vs ts : List Token) → ts ≡ us ++ vs → HasNoOutput ts → HasNoOutput us
left_of us vs ts e h = silent_left us vs (subst HasNoOutput e h)

right_of : (us vs ts : List Token) → ts ≡ us ++ vs → HasNoOutput ts → HasNoOutput vs
right_of us vs ts e h = silent_right us vs (subst HasNoOutput e h)

first_token : (t : Token) → (of_first t).kind ≡ k.Output → ⊥
first_token t = by (kind_is k.Output t.kind) refl
  where
    by : (b : Bool) → kind_is k.Output t.kind ≡ b → (if b then foreign t else t).kind ≡ k.Output → ⊥
    by true e h = cc
    by false e h = let no : true ≡ false = sym (ap (kind_is k.Output) h ∙ kind_itself k.Output) ∙ e in cc

first_tokens : (ts : List Token) → HasNoOutput (map of_first ts)
first_tokens [] = tt
first_tokens (t ∷ ts) = (first_token t, first_tokens ts)

-- What they spell ----------------------------------------------------------------------------------------------

abbrev IsQuietStm : Stm → Type 0
IsQuietStm v = IsSilentStm (stm_of v)

abbrev IsQuietBlock : Block → Type 0
IsQuietBlock v = IsSilent (block_of v)

silent_stms : (ss : List (Placed Stm)) → All (λ s. IsQuietStm s.1) ss → IsSilent (stms_of (stms ss))
silent_stms [] h = tt
silent_stms (s ∷ ss) h = (All-head (λ s. IsQuietStm s.1) s ss h, silent_stms ss (All-tail (λ s. IsQuietStm s.1) s ss h))

module _ (inside : Sense) where
  -- What such tokens spell of the right side has a property.
  record IsQuiet {A : Type 0} (a : Shape A) (P : A → Type 0) : Type 0 where
    of : (v : A) (ts : List Token) → HasNoOutput ts → Spells inside a v ts → P v

  any : {A : Type 0} {a : Shape A} → IsQuiet a (λ v. Unit {0})
  any = record { of = λ v ts none s. tt }

  of_act : {A B : Type 0} {a : Shape A} {P : A → Type 0} (f : A → B) (Q : B → Type 0) → IsQuiet a P → ((v : A) → P v → Q (f v)) → IsQuiet (act f a) Q
  of_act f Q t e = record { of = λ v ts none s. subst Q s.1 (e s.0 (t.of s.0 ts none s.2)) }

  of_seq : {A B : Type 0} {a : Shape A} {c : Shape B} {P : A → Type 0} {Q : B → Type 0} → IsQuiet a P → IsQuiet c Q → IsQuiet (seq a c) (λ x. P x.0 × Q x.1)
  of_seq t u = record { of = λ v ts none s. (t.of v.0 s.0 (left_of s.0 s.1 ts s.4 none) s.2, u.of v.1 s.1 (right_of s.0 s.1 ts s.4 none) s.3) }

  of_alt : {A : Type 0} {a c : Shape A} {P : A → Type 0} → IsQuiet a P → IsQuiet c P → IsQuiet (alt a c) P
  of_alt {A = A} {a = a} {c = c} {P = P} t u = record { of = by }
    where
      by : (v : A) (ts : List Token) → HasNoOutput ts → Spells inside (alt a c) v ts → P v
      by v ts none (inl s) = t.of v ts none s
      by v ts none (inr s) = u.of v ts none s

  of_many : {A : Type 0} {a : Shape A} {P : A → Type 0} → IsQuiet a P → IsQuiet (many a) (All P)
  of_many {A = A} {a = a} {P = P} t = record { of = by }
    where
      by : (vs : List A) (ts : List Token) → HasNoOutput ts → Each (Spells inside a) vs ts → All P vs
      by [] ts none s = All-nil P
      by (v ∷ vs) ts none s = All-cons P v vs (t.of v s.0 (left_of s.0 s.1 ts s.4 none) s.2) (by vs s.1 (right_of s.0 s.1 ts s.4 none) s.3)

  of_placed : {A : Type 0} {a : Shape A} {P : A → Type 0} → IsQuiet a P → IsQuiet (placed a) (λ x. P x.1)
  of_placed t = record { of = λ v ts none s. t.of v.1 ts none s.1 }

  -- behind a token, and in front of one
  behind : {A : Type 0} {a : Shape A} {P : A → Type 0} (j : Kind) → IsQuiet a P → IsQuiet (j ▸ a) P
  behind {P = P} j t = of_act (λ x. x.1) P (of_seq any t) (λ x h. h.1)

  closed : {A : Type 0} {a : Shape A} {P : A → Type 0} (j : Kind) → IsQuiet a P → IsQuiet (a ◂ j) P
  closed {P = P} j t = of_act (λ x. x.0) P (of_seq t any) (λ x h. h.0)

  -- Statements -------------------------------------------------------------------------------------------------

  -- there is no such token
  put_out : {a : Shape Stm} {P : Stm → Type 0} → IsQuiet (k.Output ▸ a) P
  put_out = record {
    of =
        λ v ts none s. let x = s.2 in
        absurd ((subst HasNoOutput x.2.1 (left_of x.0 x.1 ts x.4 none)).0 x.2.0);
  }

  quiet_skip : IsQuiet (k.Skip ▸ sign k.Semicolon t.skip) IsQuietStm
  quiet_skip = behind k.Skip (of_act (λ x. t.skip) IsQuietStm any (λ x h. tt))

  quiet_assign : IsQuiet (act (λ x. t.assign x.0 x.1.0 x.1.1.0 x.1.1.1.0 x.1.1.1.1) (seq name assigned)) IsQuietStm
  quiet_assign = of_act (λ x. t.assign x.0 x.1.0 x.1.1.0 x.1.1.1.0 x.1.1.1.1) IsQuietStm any (λ x h. tt)

  -- a statement of one line behind its word, which has no blocks
  quiet_line : {A : Type 0} {j : Kind} {a : Shape A} {f : A → Stm} → ((v : A) → IsQuietStm (f v)) → IsQuiet (j ▸ act f a ◂ k.Semicolon) IsQuietStm
  quiet_line {j = j} {f = f} e = behind j (closed k.Semicolon (of_act f IsQuietStm any (λ x h. e x)))

  module _ (tb : IsQuiet (rule block) IsQuietBlock) where
    quiet_branched : IsQuiet branched IsQuietStm
    unfolding branched
    quiet_branched = of_act (λ x. t.branch x.0 x.1.0 x.1.1.0 x.1.1.1.0 x.1.1.1.1) IsQuietStm (of_seq any (of_seq tb (of_seq (behind k.Else tb) any))) (λ x h. (h.1.0, h.1.1.0))

    quiet_looped : IsQuiet looped IsQuietStm
    unfolding looped
    quiet_looped = of_act (λ x. t.loop x.0 x.1.0 x.1.1.0 x.1.1.1) IsQuietStm (of_seq any (of_seq any (of_seq tb any))) (λ x h. h.1.1.0)

    quiet_statement : IsQuiet statement IsQuietStm
    unfolding statement
    quiet_statement =
        of_alt quiet_skip
        (of_alt quiet_assign
        (of_alt (quiet_line (λ x. tt))
        (of_alt (quiet_line (λ x. tt))
        (of_alt (behind k.If quiet_branched)
        (of_alt (behind k.While quiet_looped)
        (of_alt (quiet_line (λ x. tt)) put_out))))))

    quiet_braces : IsQuiet braces IsQuietBlock
    unfolding braces
    quiet_braces =
        of_act (λ x. t.block x.0.at x.1.1.at (stms x.1.0)) IsQuietBlock (of_seq any (of_seq (of_many (of_placed quiet_statement)) any))
        (λ x h. silent_stms x.1.0 h.1.0)

    quiet_thread : IsQuiet thread_decl (λ h. IsQuietBlock h.body)
    unfolding thread_decl
    quiet_thread =
        of_act
        (λ x. record { name = x.0; modes = record { assume_nowrite = x.1.0.0; assume_hide = x.1.0.1; guarantee_nowrite = x.1.1.0.0; guarantee_hide = x.1.1.0.1 }; body = x.1.1.1 })
        (λ h. IsQuietBlock h.body) (behind k.Thread (of_seq any (of_seq any (of_seq any tb)))) (λ x h. h.1.1.1)

quiet_block : (d : ℕ) → IsQuiet (Within d) (rule block) IsQuietBlock
unfolding body
quiet_block zero = record { of = λ v ts none s. absurd s }
quiet_block (suc d) = record { of = (quiet_braces (Within d) (quiet_block d)).of }

-- Texts --------------------------------------------------------------------------------------------------------

-- a text that doesn't begin with its version is of the first
unnamed : (ts : List Token) → Begins (k.Var ∷ k.Lock ∷ k.Thread ∷ []) (versioned ts) → HasNoOutput (versioned ts)
unfolding kind_is
unnamed [] h = tt
unnamed (t ∷ ts) h = by (kind_is k.Version t.kind) refl h
  where
    by : (b : Bool) → kind_is k.Version t.kind ≡ b → Begins (k.Var ∷ k.Lock ∷ k.Thread ∷ []) (if b then t ∷ behind_version ts else map of_first (t ∷ ts))
        → HasNoOutput (if b then t ∷ behind_version ts else map of_first (t ∷ ts))
    by true e g = let no : false ≡ true = subst (λ j. has (k.Var ∷ k.Lock ∷ k.Thread ∷ []) j ≡ true) (sym (kind_one k.Version t.kind e)) g in cc
    by false e g = first_tokens (t ∷ ts)

abbrev declarations : Shape (List t.Var × (List t.Lock × List Thread))
declarations = seq (many var_decl) (seq (many lock_decl) (many thread_decl))

begins_so : (d : ℕ) (x : List t.Var × (List t.Lock × List Thread)) (ts : List Token) → Spells (Within d) declarations x ts → Begins (k.Var ∷ k.Lock ∷ k.Thread ∷ []) ts
unfolding var_decl lock_decl thread_decl
begins_so d x ts s = first_ok (Within d) (full_at d) (first_at d) declarations x ts s

-- where a tree of version 1 was read, nothing is put out
silent_by : (d : ℕ) (raw : List Token) (v : Option ℕ) (us vs : List Token) (x : List t.Var × (List t.Lock × List Thread)) → Spells (Within d) (opt version) v us → Spells (Within d) declarations x vs → versioned raw ≡ us ++ vs
    → version_of v ≡ 1 → HasNoOutput (versioned raw)
silent_by d raw None us vs x s r e first = unnamed raw (begins_so d x (versioned raw) (subst (Spells (Within d) declarations x) (sym (e ∙ ap (λ ws. ws ++ vs) s)) r))
silent_by d raw (Some n) us vs x s r e first = cc

pub tokens_silent : (raw : List Token) (tree : Program) → Is program tree (versioned raw) → tree.version ≡ 1 → HasNoOutput (versioned raw)
unfolding program
tokens_silent raw tree is first =
    let s = is.1.2 in
    silent_by is.0 raw is.1.0.0 s.0 s.1 is.1.0.1 s.2 s.3 s.4 (ap (λ p. p.version) is.1.1 ∙ first)

version_known : (v : Option ℕ) → (version_of v ≡ 1) ⊎ (version_of v ≡ 2)
version_known None = inl refl
version_known (Some n) = inr refl

pub tree_version : (ns : List (List ℕ)) (raw : List Token) (tree : Program) → Is program tree (versioned raw) → IsOfVersion tree.version (map (thread_of ns) tree.threads)
unfolding program
tree_version ns raw tree is =
    let s = is.1.2 in
    let r = s.3 in
    let u = r.3 in
    let quiet = (of_many (Within is.0) (quiet_thread (Within is.0) (quiet_block is.0))).of in
    subst (λ p. IsOfVersion p.version (map (thread_of ns) p.threads)) is.1.1
    (record {
      known = version_known is.1.0.0;
      silent =
          λ first. let none = silent_by is.0 raw is.1.0.0 s.0 s.1 is.1.0.1 s.2 r s.4 first in
          let behind_version = right_of s.0 s.1 (versioned raw) s.4 none in
          let behind_vars = right_of r.0 r.1 s.1 r.4 behind_version in
          All-map (λ h. IsSilent h.body) (thread_of ns) is.1.0.1.1.1 (quiet is.1.0.1.1.1 u.1 (right_of u.0 u.1 r.1 u.4 behind_vars) u.3);
    })

pub text_version : (ns : List (List ℕ)) (text : List ℕ) (tree : Program) → Is program tree (words_of text) → IsOfVersion tree.version (map (thread_of ns) tree.threads)
unfolding words_of
text_version ns text tree is = tree_version ns (numbered_of text) tree is

-- Certificates put into a text leave the table of its names as it is: each name in a certificate is that of a variable, which is declared in front of all threads.
use Rattle.std.proofs.Common.{◌≡◌, ℕ, ◌==◌, List, [], ◌∷◌, ◌++◌, flat_map, Bool, true, false, refl, sym, ap, ◌∙◌, if◌then◌else◌}
use Rattle.cov_expr.specs.Term.{Term, const, var, neg, bin}
use Rattle.cov_expr.specs.declared.expr.TheConstants.{HOLE}
use Rattle.cov_expr.specs.declared.kind.Kind.TheVariants as k
use Rattle.cov_ast.specs.Ready.{Use, as_variable, uses_in, uses_in_block, uses_in_cert, uses_in_option, uses_in_proof, uses_in_state, uses_in_stm, uses_in_type}
use Rattle.cov_ast.specs.Syntax as s
use Rattle.cov_ast.specs.Syntax.{Cert, Proof}
use Rattle.cov_print.specs.Spelling.{is_word}
use Rattle.cov_print.proofs.Written as w
use Rattle.cov_print.proofs.Written.{Word, plain, commas, enclosed}
use Rattle.cov_print.proofs.Keeps.{leaves_of, leaves_of_append}
use Rattle.annotate.specs.WithCertificates.{with_certs}
use Rattle.annotate.proofs.Changes.{block_with, proofs_with, stm_with}

-- Names that are there -----------------------------------------------------------------------------------------

module _ (inside : ℕ → Bool) (hole_inside : inside HOLE ≡ true) (named : ℕ → Bool) where
  -- numbers but for those inside
  abbrev pub outside : List ℕ → List ℕ
  outside [] = []
  outside (x ∷ xs) = if inside x then outside xs else x ∷ outside xs

  outside_append : (xs ys : List ℕ) → outside (xs ++ ys) ≡ outside xs ++ outside ys
  outside_append [] ys = refl
  outside_append (x ∷ xs) ys = by (inside x) (outside_append xs ys)
    where
      by : (b : Bool) → outside (xs ++ ys) ≡ outside xs ++ outside ys → (if b then outside (xs ++ ys) else x ∷ outside (xs ++ ys)) ≡ (if b then outside xs else x ∷ outside xs) ++ outside ys
      by true e = e
      by false e = ap (λ l. x ∷ l) e

  -- of words
  abbrev pub out : List Word → List ℕ
  out ws = outside (leaves_of ws)

  out_append : (us vs : List Word) → out (us ++ vs) ≡ out us ++ out vs
  out_append us vs = ap outside (leaves_of_append us vs) ∙ outside_append (leaves_of us) (leaves_of vs)

  pub behind : (us vs ws : List Word) → out vs ≡ out ws → out (us ++ vs) ≡ out (us ++ ws)
  behind us vs ws e = out_append us vs ∙ ap (λ l. out us ++ l) e ∙ sym (out_append us ws)

  pub before : (us vs ws : List Word) → out us ≡ out vs → out (us ++ ws) ≡ out (vs ++ ws)
  before us vs ws e = out_append us ws ∙ ap (λ l. l ++ out ws) e ∙ sym (out_append vs ws)

  -- Each use of a variable is of a name inside.
  abbrev pub UsesIn : List Use → Type 0
  UsesIn [] = Unit {0}
  UsesIn (u ∷ us) = (u.lock ≡ false → inside u.name ≡ true) × UsesIn us

  pub uses_left : (us vs : List Use) → UsesIn (us ++ vs) → UsesIn us
  uses_left [] vs h = tt
  uses_left (u ∷ us) vs h = (h.0, uses_left us vs h.1)

  pub uses_right : (us vs : List Use) → UsesIn (us ++ vs) → UsesIn vs
  uses_right [] vs h = h
  uses_right (u ∷ us) vs h = uses_right us vs h.1

  abbrev WordIn : Word → Type 0
  WordIn (w.plain j) = Unit {0}
  WordIn (w.name x) = inside x ≡ true
  WordIn (w.hole x) = inside x ≡ true
  WordIn (w.number n) = Unit {0}

  abbrev WordsIn : List Word → Type 0
  WordsIn [] = Unit {0}
  WordsIn (v ∷ vs) = WordIn v × WordsIn vs

  in_append : (us vs : List Word) → WordsIn us → WordsIn vs → WordsIn (us ++ vs)
  in_append [] vs h g = g
  in_append (u ∷ us) vs h g = (h.0, in_append us vs h.1 g)

  none_out : (ws : List Word) → WordsIn ws → out ws ≡ []
  none_out [] h = refl
  none_out (w.plain j ∷ ws) h = none_out ws h.1
  none_out (w.name x ∷ ws) h = ap (λ b. if b then out ws else x ∷ out ws) h.0 ∙ none_out ws h.1
  none_out (w.hole x ∷ ws) h = ap (λ b. if b then out ws else x ∷ out ws) h.0 ∙ none_out ws h.1
  none_out (w.number n ∷ ws) h = none_out ws h.1

  -- Expressions and certificates -------------------------------------------------------------------------------

  variable_in : (x : ℕ) → UsesIn (uses_in (var x)) → inside x ≡ true
  variable_in x h = by (x == HOLE) refl h
    where
      by : (b : Bool) → (x == HOLE) ≡ b → UsesIn (if b then [] else as_variable x) → inside x ≡ true
      by true e g = ap inside (Rattle.std.proofs.Common.eqb-true x HOLE e) ∙ hole_inside
      by false e g = g.0 refl

  term_in : (operand : Bool) (e : Term) → UsesIn (uses_in e) → WordsIn (w.expr named operand e)
  term_in operand (const n) h = (tt, tt)
  term_in operand (var x) h = (by (named x), tt)
    where
      by : (b : Bool) → WordIn (if b then w.name x else w.hole x)
      by true = variable_in x h
      by false = variable_in x h
  term_in operand (neg e) h = (tt, term_in true e h)
  term_in false (bin op a b) h =
      in_append (w.expr named true a) (plain (w.sign_of op) ∷ w.expr named true b) (term_in true a (uses_left (uses_in a) (uses_in b) h))
      (tt, term_in true b (uses_right (uses_in a) (uses_in b) h))
  term_in true (bin op a b) h = (
    tt,
    in_append (w.expr named true a ++ plain (w.sign_of op) ∷ w.expr named true b) (plain k.CloseParen ∷ [])
        (in_append (w.expr named true a) (plain (w.sign_of op) ∷ w.expr named true b) (term_in true a (uses_left (uses_in a) (uses_in b) h))
        (tt, term_in true b (uses_right (uses_in a) (uses_in b) h))) (tt, tt),
  )

  bracketed_in : (e : Term) → UsesIn (uses_in e) → WordsIn (w.bracketed (w.whole named e))
  bracketed_in e h = (tt, in_append (w.whole named e) (plain k.CloseBracket ∷ []) (term_in false e h) (tt, tt))

  terms_behind : (es : List Term) → UsesIn (flat_map uses_in es) → WordsIn (flat_map (λ y. plain k.Comma ∷ w.whole named y) es)
  terms_behind [] h = tt
  terms_behind (e ∷ es) h = (
    tt,
    in_append (w.whole named e) (flat_map (λ y. plain k.Comma ∷ w.whole named y) es) (term_in false e (uses_left (uses_in e) (flat_map uses_in es) h))
        (terms_behind es (uses_right (uses_in e) (flat_map uses_in es) h)),
  )

  terms_in : (es : List Term) → UsesIn (flat_map uses_in es) → WordsIn (commas (w.whole named) es)
  terms_in [] h = tt
  terms_in (e ∷ es) h =
      in_append (w.whole named e) (flat_map (λ y. plain k.Comma ∷ w.whole named y) es) (term_in false e (uses_left (uses_in e) (flat_map uses_in es) h))
      (terms_behind es (uses_right (uses_in e) (flat_map uses_in es) h))

  abbrev inner : Cert → List Word
  inner c = w.part c (w.cert named c)

  part_in : (c : Cert) → WordsIn (w.cert named c) → WordsIn (inner c)
  part_in c h = by (is_word c)
    where
      by : (b : Bool) → WordsIn (if b then w.cert named c else enclosed (w.cert named c))
      by true = h
      by false = (tt, in_append (w.cert named c) (plain k.CloseParen ∷ []) h (tt, tt))

  abbrev Go : Cert → Type 0
  Go c = UsesIn (uses_in_cert c) → WordsIn (w.cert named c)

  two_in : (c d : Cert) → Go c → Go d → UsesIn (uses_in_cert c ++ uses_in_cert d) → WordsIn (inner c ++ inner d)
  two_in c d go on h =
      in_append (inner c) (inner d) (part_in c (go (uses_left (uses_in_cert c) (uses_in_cert d) h))) (part_in d (on (uses_right (uses_in_cert c) (uses_in_cert d) h)))

  term_two_in : (e : Term) (c d : Cert) → Go c → Go d → UsesIn (uses_in e ++ uses_in_cert c ++ uses_in_cert d) → WordsIn (w.bracketed (w.whole named e) ++ (inner c ++ inner d))
  term_two_in e c d go on h =
      let front = uses_left (uses_in e ++ uses_in_cert c) (uses_in_cert d) h in
      in_append (w.bracketed (w.whole named e)) (inner c ++ inner d) (bracketed_in e (uses_left (uses_in e) (uses_in_cert c) front))
      (in_append (inner c) (inner d) (part_in c (go (uses_right (uses_in e) (uses_in_cert c) front)))
      (part_in d (on (uses_right (uses_in e ++ uses_in_cert c) (uses_in_cert d) h))))

  term_one_in : (e : Term) (c : Cert) → Go c → UsesIn (uses_in e ++ uses_in_cert c) → WordsIn (w.bracketed (w.whole named e) ++ inner c)
  term_one_in e c go h =
      in_append (w.bracketed (w.whole named e)) (inner c) (bracketed_in e (uses_left (uses_in e) (uses_in_cert c) h)) (part_in c (go (uses_right (uses_in e) (uses_in_cert c) h)))

  cert_in : (c : Cert) → UsesIn (uses_in_cert c) → WordsIn (w.cert named c)
  cert_in s.auto h = (tt, tt)
  cert_in s.calc h = (tt, tt)
  cert_in s.reflexive h = (tt, tt)
  cert_in s.ring h = (tt, tt)
  cert_in s.range h = (tt, tt)
  cert_in (s.hyp i) h = (tt, (tt, tt))
  cert_in (s.clash i) h = (tt, (tt, tt))
  cert_in (s.absurdity i j) h = (tt, (tt, (tt, tt)))
  cert_in (s.and c d) h = (tt, two_in c d (cert_in c) (cert_in d) h)
  cert_in (s.left c) h = (tt, part_in c (cert_in c h))
  cert_in (s.right c) h = (tt, part_in c (cert_in c h))
  cert_in (s.unpack i c) h = (tt, (tt, part_in c (cert_in c h)))
  cert_in (s.cases i c d) h = (tt, (tt, two_in c d (cert_in c) (cert_in d) h))
  cert_in (s.split e c d) h = (tt, term_two_in e c d (cert_in c) (cert_in d) h)
  cert_in (s.have e c d) h = (tt, term_two_in e c d (cert_in c) (cert_in d) h)
  cert_in (s.negation c) h = (tt, part_in c (cert_in c h))
  cert_in (s.contra c) h = (tt, part_in c (cert_in c h))
  cert_in (s.fwd i e c) h = (tt, (tt, term_one_in e c (cert_in c) h))
  cert_in (s.rev i e c) h = (tt, (tt, term_one_in e c (cert_in c) h))
  cert_in (s.instance i es c) h = (
    tt,
    (
      tt,
      in_append (enclosed (commas (w.whole named) es)) (inner c)
          (tt, in_append (commas (w.whole named) es) (plain k.CloseParen ∷ []) (terms_in es (uses_left (flat_map uses_in es) (uses_in_cert c) h)) (tt, tt))
          (part_in c (cert_in c (uses_right (flat_map uses_in es) (uses_in_cert c) h))),
    ),
  )

  proofs_behind : (qs : List Proof) → UsesIn (flat_map uses_in_proof qs) → WordsIn (flat_map (λ y. plain k.Comma ∷ w.proof named y) qs)
  proofs_behind [] h = tt
  proofs_behind (q ∷ qs) h = (
    tt,
    (
      tt,
      (
        tt,
        in_append (w.cert named q.cert) (flat_map (λ y. plain k.Comma ∷ w.proof named y) qs)
            (cert_in q.cert (uses_left (uses_in_cert q.cert) (flat_map uses_in_proof qs) h)) (proofs_behind qs (uses_right (uses_in_cert q.cert) (flat_map uses_in_proof qs) h)),
      ),
    ),
  )

  proofs_in : (qs : List Proof) → UsesIn (flat_map uses_in_proof qs) → WordsIn (w.by named qs)
  proofs_in [] h = tt
  proofs_in (q ∷ qs) h = (
    tt,
    (
      tt,
      in_append (commas (w.proof named) (q ∷ qs)) (plain k.CloseBrace ∷ []) (
        tt,
        (
          tt,
          in_append (w.cert named q.cert) (flat_map (λ y. plain k.Comma ∷ w.proof named y) qs)
              (cert_in q.cert (uses_left (uses_in_cert q.cert) (flat_map uses_in_proof qs) h)) (proofs_behind qs (uses_right (uses_in_cert q.cert) (flat_map uses_in_proof qs) h)),
        ),
      ) (tt, tt),
    ),
  )

  proofs_alike : (ps qs : List Proof) → UsesIn (flat_map uses_in_proof ps) → UsesIn (flat_map uses_in_proof qs) → out (w.by named ps) ≡ out (w.by named qs)
  proofs_alike ps qs h g = none_out (w.by named ps) (proofs_in ps h) ∙ sym (none_out (w.by named qs) (proofs_in qs g))

  -- Statements and blocks --------------------------------------------------------------------------------------

  abbrev ended : List Word → List Word
  ended ws = ws ++ plain k.Semicolon ∷ []

  module _ (chosen : (place : ℕ) → List (ℕ × Cert)) where
    in_braces : (b : s.Block) → out (w.block named (block_with chosen b)) ≡ out (w.block named b) → out (w.braces named (block_with chosen b)) ≡ out (w.braces named b)
    in_braces b e =
        behind (plain k.OpenBrace ∷ []) (w.block named (block_with chosen b) ++ plain k.CloseBrace ∷ []) (w.block named b ++ plain k.CloseBrace ∷ [])
        (before (w.block named (block_with chosen b)) (w.block named b) (plain k.CloseBrace ∷ []) e)

    -- those of the proofs of a statement
    uses_of_proofs : (c : s.Stm) (ps : List Proof) → UsesIn (uses_in_stm c ps) → UsesIn (flat_map uses_in_proof ps)
    uses_of_proofs s.skip ps h = h
    uses_of_proofs (s.assign x e q rs) ps h = uses_right (as_variable x ++ uses_in e ++ uses_in_option q ++ flat_map uses_in_type rs) (flat_map uses_in_proof ps) h
    uses_of_proofs (s.branch e a b join) ps h = uses_right (uses_in e ++ uses_in_block a ++ uses_in_block b ++ uses_in_state join) (flat_map uses_in_proof ps) h
    uses_of_proofs (s.loop e inv b) ps h = uses_right (uses_in e ++ uses_in_state inv ++ uses_in_block b) (flat_map uses_in_proof ps) h
    uses_of_proofs (s.note j) ps h = uses_right (uses_in_state j) (flat_map uses_in_proof ps) h
    uses_of_proofs (s.output e) ps h = uses_right (uses_in e) (flat_map uses_in_proof ps) h
    uses_of_proofs _ ps h = h.1

    mutual
      stm_alike : (c : s.Stm) (cs : List (ℕ × Cert)) (ps : List Proof) → UsesIn (uses_in_stm c ps) → UsesIn (uses_in_stm (stm_with chosen c) (proofs_with c cs ps))
          → out (w.stm named (stm_with chosen c) (proofs_with c cs ps)) ≡ out (w.stm named c ps)
      stm_alike (s.branch e a b join) cs ps h g =
          let a' = block_with chosen a in
          let b' = block_with chosen b in
          let qs = with_certs cs ps in
          let us = w.by named qs in
          let vs = w.by named ps in
          let h1 = uses_left (uses_in e ++ uses_in_block a ++ uses_in_block b ++ uses_in_state join) (flat_map uses_in_proof ps) h in
          let g1 = uses_left (uses_in e ++ uses_in_block a' ++ uses_in_block b' ++ uses_in_state join) (flat_map uses_in_proof qs) g in
          let h2 = uses_left (uses_in e ++ uses_in_block a ++ uses_in_block b) (uses_in_state join) h1 in
          let g2 = uses_left (uses_in e ++ uses_in_block a' ++ uses_in_block b') (uses_in_state join) g1 in
          let h3 = uses_left (uses_in e ++ uses_in_block a) (uses_in_block b) h2 in
          let g3 = uses_left (uses_in e ++ uses_in_block a') (uses_in_block b') g2 in
          let first = in_braces a (block_alike a (uses_right (uses_in e) (uses_in_block a) h3) (uses_right (uses_in e) (uses_in_block a') g3)) in
          let other = in_braces b (block_alike b (uses_right (uses_in e ++ uses_in_block a) (uses_in_block b) h2) (uses_right (uses_in e ++ uses_in_block a') (uses_in_block b') g2)) in
          let last = proofs_alike qs ps (uses_of_proofs (s.branch e a' b' join) qs g) (uses_of_proofs (s.branch e a b join) ps h) in
          let j = w.stated named k.Join join in
          let end = behind (plain k.Else ∷ []) (w.braces named b' ++ (j ++ us)) (w.braces named b ++ (j ++ vs))
          (before (w.braces named b') (w.braces named b) (j ++ us) other ∙ behind (w.braces named b) (j ++ us) (j ++ vs) (behind j us vs last)) in
          behind (plain k.If ∷ []) (w.whole named e ++ (w.braces named a' ++ (plain k.Else ∷ (w.braces named b' ++ (j ++ us)))))
          (w.whole named e ++ (w.braces named a ++ (plain k.Else ∷ (w.braces named b ++ (j ++ vs)))))
          (behind (w.whole named e) (w.braces named a' ++ (plain k.Else ∷ (w.braces named b' ++ (j ++ us)))) (w.braces named a ++ (plain k.Else ∷ (w.braces named b ++ (j ++ vs))))
          (before (w.braces named a') (w.braces named a) (plain k.Else ∷ (w.braces named b' ++ (j ++ us))) first
          ∙ behind (w.braces named a) (plain k.Else ∷ (w.braces named b' ++ (j ++ us))) (plain k.Else ∷ (w.braces named b ++ (j ++ vs))) end))
      stm_alike (s.loop e inv b) cs ps h g =
          let b' = block_with chosen b in
          let qs = with_certs cs ps in
          let us = w.by named qs in
          let vs = w.by named ps in
          let h1 = uses_left (uses_in e ++ uses_in_state inv ++ uses_in_block b) (flat_map uses_in_proof ps) h in
          let g1 = uses_left (uses_in e ++ uses_in_state inv ++ uses_in_block b') (flat_map uses_in_proof qs) g in
          let first = in_braces b (block_alike b (uses_right (uses_in e ++ uses_in_state inv) (uses_in_block b) h1) (uses_right (uses_in e ++ uses_in_state inv) (uses_in_block b') g1)) in
          let last = proofs_alike qs ps (uses_of_proofs (s.loop e inv b') qs g) (uses_of_proofs (s.loop e inv b) ps h) in
          let j = w.stated named k.Inv inv in
          behind (plain k.While ∷ []) (w.whole named e ++ (j ++ (w.braces named b' ++ us))) (w.whole named e ++ (j ++ (w.braces named b ++ vs)))
          (behind (w.whole named e) (j ++ (w.braces named b' ++ us)) (j ++ (w.braces named b ++ vs))
          (behind j (w.braces named b' ++ us) (w.braces named b ++ vs)
          (before (w.braces named b') (w.braces named b) us first ∙ behind (w.braces named b) us vs last)))
      stm_alike s.skip cs ps h g = refl
      stm_alike (s.lock l) cs ps h g = refl
      stm_alike c cs ps h g =
          let same = proofs_alike (proofs_with c cs ps) ps (uses_of_proofs (stm_with chosen c) (proofs_with c cs ps) g) (uses_of_proofs c ps h) in
          simp (leaves_of_append, outside_append, same) refl

      pub block_alike : (b : s.Block) → UsesIn (uses_in_block b) → UsesIn (uses_in_block (block_with chosen b)) → out (w.block named (block_with chosen b)) ≡ out (w.block named b)
      block_alike s.done h g = refl
      block_alike (s.more at c ps b) h g =
          let c' = stm_with chosen c in
          let qs = proofs_with c (chosen at) ps in
          let b' = block_with chosen b in
          before (w.stm named c' qs) (w.stm named c ps) (w.block named b')
          (stm_alike c (chosen at) ps (uses_left (uses_in_stm c ps) (uses_in_block b) h) (uses_left (uses_in_stm c' qs) (uses_in_block b') g))
          ∙ behind (w.stm named c ps) (w.block named b') (w.block named b)
          (block_alike b (uses_right (uses_in_stm c ps) (uses_in_block b) h) (uses_right (uses_in_stm c' qs) (uses_in_block b') g))

    pub braces_alike : (b : s.Block) → UsesIn (uses_in_block b) → UsesIn (uses_in_block (block_with chosen b)) → out (w.braces named (block_with chosen b)) ≡ out (w.braces named b)
    braces_alike b h g = in_braces b (block_alike b h g)

-- A certificate in the numbers of names is read back, and so the annotated text is read as the annotated program.
use Rattle.std.proofs.Common.{◌≡◌, inl, inr, ℕ, zero, suc, ◌+◌, ◌<◌, ◌≤◌, ◌==◌, ◌&&◌, ◌||◌, not, List, [], ◌∷◌, ◌++◌, length, map, get_or, Bool, true, false, cond, if◌then◌else◌, Option, Some, None, refl, sym, ap, ◌∙◌, subst, arith, IsTrue, true≢false, All, ne_eqb}
use Rattle.std.specs.Prelude.{option_map, unwrap_or}
use Rattle.std.specs.List.{position_or_len}
use Rattle.std.specs.Str.{bytes_eq}
use Rattle.std.proofs.lemmas.Bool.{and_parts, not-true}
use Rattle.std.proofs.lemmas.Cmp.{nat_list_eq_equiv}
use Rattle.std.proofs.lemmas.List.Elements.{All-head, All-tail}
use Rattle.std.proofs.lemmas.Slice.Eq.{bytes_eq-Decides}
use Rattle.cov_expr.specs.Term.{Term, const, var, neg, bin}
use Rattle.cov_expr.specs.Words.{HasVarsBelow}
use Rattle.cov_expr.specs.declared.expr.TheConstants.{HOLE}
use Rattle.cov_ast.specs.Syntax.{Cert, Proof, Stm, Block, done, more, Thread, Var, Parsed}
use Rattle.cov_ast.specs.Syntax as s
use Rattle.cov_ast.specs.WellFormed.{are_distinct, IsCertInRange, IsTemplateBelow, IsWellFormed}
use Rattle.policy_class.specs.Resolved.{is_among, lock_id, resolved, resolved_block, resolved_cert, resolved_proof, resolved_state, resolved_stm, resolved_term, resolved_thread, resolved_var, resolved_variable, var_id, var_names}
use Rattle.annotate.specs.AnnotatedText.{AreVariablesNamed, name_number, unresolved_cert, unresolved_choice, with_choices}
use Rattle.annotate.specs.WithCertificates.{chosen_for, for_others, proof_of, put_in, put_in_program, put_in_stm, put_in_threads, with_certs}

-- Names --------------------------------------------------------------------------------------------------------

-- a name that is there stands at its number
pub named_there : (names : List (List ℕ)) (name : List ℕ) → is_among names name ≡ true
    → (get_or names (position_or_len (bytes_eq name) names) [] ≡ name) × (position_or_len (bytes_eq name) names < length names)
named_there [] name h = absurd (true≢false (sym h))
named_there (n ∷ ns) name h = go (bytes_eq name n) refl h (named_there ns name)
  where
    go : (b : Bool) → bytes_eq name n ≡ b → (b || is_among ns name) ≡ true
        → (is_among ns name ≡ true → (get_or ns (position_or_len (bytes_eq name) ns) [] ≡ name) × (position_or_len (bytes_eq name) ns < length ns))
        → (get_or (n ∷ ns) (cond (not b) (1 + position_or_len (bytes_eq name) ns) 0) [] ≡ name) × (cond (not b) (1 + position_or_len (bytes_eq name) ns) 0 < suc (length ns))
    go true e k rest = (sym ((bytes_eq-Decides name n).0 e), omega arith)
    go false e k rest =
        let r = rest k in
        let i : 1 + position_or_len (bytes_eq name) ns ≡ suc (position_or_len (bytes_eq name) ns) = omega arith in
        (ap (λ m. get_or (n ∷ ns) m []) i ∙ r.0, omega (arith, r.1))

pub among_at : (ns : List (List ℕ)) (x : ℕ) → x < length ns → is_among ns (get_or ns x []) ≡ true
among_at [] x h = absurd (omega (arith, h))
among_at (n ∷ ns) zero h = ap (λ b. b || is_among ns n) (nat_list_eq_equiv.refl n)
among_at (n ∷ ns) (suc x) h = go (bytes_eq (get_or ns x []) n) (among_at ns x (omega (arith, h)))
  where
    go : (b : Bool) → is_among ns (get_or ns x []) ≡ true → (b || is_among ns (get_or ns x [])) ≡ true
    go true k = refl
    go false k = k

-- where names differ, each has the number of its place
number_is : (ns : List (List ℕ)) → IsTrue (are_distinct bytes_eq ns) → (x : ℕ) → x < length ns → position_or_len (bytes_eq (get_or ns x [])) ns ≡ x
number_is [] d x h = absurd (omega (arith, h))
number_is (n ∷ ns) d zero h = ap (λ b. cond (not b) (1 + position_or_len (bytes_eq n) ns) 0) (nat_list_eq_equiv.refl n)
number_is (n ∷ ns) d (suc x) h =
    let both = and_parts (not (is_among ns n)) (are_distinct bytes_eq ns) d in
    let name = get_or ns x [] in
    go (bytes_eq name n) refl (not-true (is_among ns n) both.0) (among_at ns x (omega (arith, h))) (number_is ns both.1 x (omega (arith, h)))
  where
    go : (b : Bool) → bytes_eq (get_or ns x []) n ≡ b → is_among ns n ≡ false → is_among ns (get_or ns x []) ≡ true → position_or_len (bytes_eq (get_or ns x [])) ns ≡ x
        → cond (not b) (1 + position_or_len (bytes_eq (get_or ns x [])) ns) 0 ≡ suc x
    go true e none there rest = absurd (true≢false (sym there ∙ ap (is_among ns) ((bytes_eq-Decides (get_or ns x []) n).0 e) ∙ none))
    go false e none there rest = omega (arith, rest)

distinct_left : (xs ys : List (List ℕ)) → IsTrue (are_distinct bytes_eq (xs ++ ys)) → IsTrue (are_distinct bytes_eq xs)
distinct_left [] ys d = refl
distinct_left (x ∷ xs) ys d =
    let both = and_parts (not (is_among (xs ++ ys) x)) (are_distinct bytes_eq (xs ++ ys)) d in
    λ i. not (none xs (not-true (is_among (xs ++ ys) x) both.0) i) && distinct_left xs ys both.1 i
  where
    none : (zs : List (List ℕ)) → is_among (zs ++ ys) x ≡ false → is_among zs x ≡ false
    none [] h = refl
    none (z ∷ zs) h = go (bytes_eq x z) h (none zs)
      where
        go : (b : Bool) → (b || is_among (zs ++ ys) x) ≡ false → (is_among (zs ++ ys) x ≡ false → is_among zs x ≡ false) → (b || is_among zs x) ≡ false
        go true k rest = absurd (true≢false k)
        go false k rest = rest k

pub each_named : (names all : List (List ℕ)) → All (λ name. IsTrue (is_among all name)) names → (x : ℕ) → x < length names → is_among all (get_or names x []) ≡ true
each_named names all h x lt = h x [] lt

pub names_length : (vs : List Var) → length (map (λ v. v.name) vs) ≡ length vs
names_length [] = refl
names_length (v ∷ vs) = ap (λ n. suc n) (names_length vs)

-- Certificates -------------------------------------------------------------------------------------------------

module _ (p : Parsed) (distinct : IsTrue (are_distinct bytes_eq (var_names p))) (named : AreVariablesNamed p) (few : length p.names ≤ HOLE) where
  var_again : (x : ℕ) → x < length p.vars → resolved_var (var_id p) (lock_id p) (resolved_var (name_number p) (λ l. l) x) ≡ x
  var_again x h = go (x == HOLE) refl
    where
      go : (b : Bool) → (x == HOLE) ≡ b → resolved_var (var_id p) (lock_id p) (if b then x else name_number p x) ≡ x
      go true i = ap (λ b. if b then x else var_id p x) i
      go false i =
          let inside : x < length (var_names p) = subst (λ n. x < n) (sym (names_length p.vars)) h in
          let there = named_there p.names (get_or (var_names p) x []) (each_named (var_names p) p.names named x inside) in
          let no_hole : (name_number p x == HOLE) ≡ false = ne_eqb (name_number p x) HOLE (λ k. omega (arith, there.1, few, k)) in
          ap (λ b. if b then name_number p x else var_id p (name_number p x)) no_hole
          ∙ ap (λ name. position_or_len (bytes_eq name) (var_names p)) there.0
          ∙ number_is (var_names p) distinct x inside

  hole_again : resolved_var (var_id p) (lock_id p) (resolved_var (name_number p) (λ l. l) HOLE) ≡ HOLE
  hole_again = refl

  term_again : (a : Term) → HasVarsBelow a (length p.vars) → resolved_term (var_id p) (lock_id p) (resolved_term (name_number p) (λ l. l) a) ≡ a
  term_again (const k) h = refl
  term_again (var x) h = ap var (var_again x h)
  term_again (neg a) h = ap neg (term_again a h)
  term_again (bin op a b) h = λ i. bin op (term_again a h.0 i) (term_again b h.1 i)

  template_again : (a : Term) → IsTemplateBelow a (length p.vars) → resolved_term (var_id p) (lock_id p) (resolved_term (name_number p) (λ l. l) a) ≡ a
  template_again (const k) h = refl
  template_again (var x) (inl h) = ap var (var_again x h)
  template_again (var x) (inr h) =
      subst (λ y. var (resolved_var (var_id p) (lock_id p) (resolved_var (name_number p) (λ l. l) y)) ≡ var y) (sym h) (ap var hole_again)
  template_again (neg a) h = ap neg (template_again a h)
  template_again (bin op a b) h = λ i. bin op (template_again a h.0 i) (template_again b h.1 i)

  terms_again : (es : List Term) → All (λ a. HasVarsBelow a (length p.vars)) es
      → map (resolved_term (var_id p) (lock_id p)) (map (resolved_term (name_number p) (λ l. l)) es) ≡ es
  terms_again [] h = refl
  terms_again (a ∷ es) h =
      λ i. term_again a (All-head (λ a. HasVarsBelow a (length p.vars)) a es h) i ∷ terms_again es (All-tail (λ a. HasVarsBelow a (length p.vars)) a es h) i

  cert_again : (locks : ℕ) (c : Cert) → IsCertInRange (length p.vars) locks c → resolved_cert (var_id p) (lock_id p) (unresolved_cert p c) ≡ c
  cert_again locks s.auto h = refl
  cert_again locks (s.hyp i) h = refl
  cert_again locks s.calc h = refl
  cert_again locks (s.clash i) h = refl
  cert_again locks (s.and c d) h = λ j. s.and (cert_again locks c h.0 j) (cert_again locks d h.1 j)
  cert_again locks (s.left c) h = λ j. s.left (cert_again locks c h j)
  cert_again locks (s.right c) h = λ j. s.right (cert_again locks c h j)
  cert_again locks (s.unpack i c) h = λ j. s.unpack i (cert_again locks c h j)
  cert_again locks (s.cases i c d) h = λ j. s.cases i (cert_again locks c h.0 j) (cert_again locks d h.1 j)
  cert_again locks (s.split a c d) h = λ j. s.split (term_again a h.0 j) (cert_again locks c h.1 j) (cert_again locks d h.2 j)
  cert_again locks (s.have a c d) h = λ j. s.have (term_again a h.0 j) (cert_again locks c h.1 j) (cert_again locks d h.2 j)
  cert_again locks (s.absurdity i k) h = refl
  cert_again locks (s.negation c) h = λ j. s.negation (cert_again locks c h j)
  cert_again locks (s.contra c) h = λ j. s.contra (cert_again locks c h j)
  cert_again locks s.reflexive h = refl
  cert_again locks (s.fwd i a c) h = λ j. s.fwd i (template_again a h.0 j) (cert_again locks c h.1 j)
  cert_again locks (s.rev i a c) h = λ j. s.rev i (template_again a h.0 j) (cert_again locks c h.1 j)
  cert_again locks (s.instance k es c) h = λ j. s.instance k (terms_again es h.0 j) (cert_again locks c h.1 j)
  cert_again locks s.ring h = refl
  cert_again locks s.range h = refl

-- the names of variables of a well formed program differ
resolved_names : (v l : ℕ → ℕ) (vs : List Var) → map (λ x. x.name) (map (resolved_variable v l) vs) ≡ map (λ x. x.name) vs
resolved_names v l [] = refl
resolved_names v l (x ∷ vs) = ap (λ ns. x.name ∷ ns) (resolved_names v l vs)

pub names_distinct : (p : Parsed) → IsWellFormed (resolved p) → IsTrue (are_distinct bytes_eq (var_names p))
names_distinct p formed =
    let q = resolved p in
    let vs = map (λ v. v.name) q.vars in
    let ls = map (λ l. l.name) q.locks in
    let ts = map (λ t. t.name) q.threads in
    subst (λ ns. IsTrue (are_distinct bytes_eq ns)) (resolved_names (var_id p) (lock_id p) p.vars) (distinct_left vs ls (distinct_left (vs ++ ls) ts formed.names_differ))

pub unresolved_is_read : (p : Parsed) → IsWellFormed (resolved p) → AreVariablesNamed p → length p.names ≤ HOLE → (locks : ℕ) (c : Cert)
    → IsCertInRange (length p.vars) locks c → resolved_cert (var_id p) (lock_id p) (unresolved_cert p c) ≡ c
unresolved_is_read p formed named few locks c h = cert_again p (names_distinct p formed) named few locks c h

-- Programs -----------------------------------------------------------------------------------------------------

module _ (v l : ℕ → ℕ) where
  abbrev read_choice : ℕ × Cert → ℕ × Cert
  read_choice c = (c.0, resolved_cert v l c.1)

  chosen_read : (cs : List (ℕ × Cert)) (n : ℕ) → chosen_for (map read_choice cs) n ≡ option_map (resolved_cert v l) (chosen_for cs n)
  chosen_read [] n = refl
  chosen_read (c ∷ cs) n = go (c.0 == n) (chosen_read cs n)
    where
      go : (b : Bool) → chosen_for (map read_choice cs) n ≡ option_map (resolved_cert v l) (chosen_for cs n)
          → (if b then Some (resolved_cert v l c.1) else chosen_for (map read_choice cs) n) ≡ option_map (resolved_cert v l) (if b then Some c.1 else chosen_for cs n)
      go true h = refl
      go false h = h

  others_read : (m : ℕ) (cs : List (ℕ × Cert)) → for_others m (map read_choice cs) ≡ map read_choice (for_others m cs)
  others_read m [] = refl
  others_read m (c ∷ cs) = go (c.0 == m) (others_read m cs)
    where
      go : (b : Bool) → for_others m (map read_choice cs) ≡ map read_choice (for_others m cs)
          → (if b then for_others m (map read_choice cs) else read_choice c ∷ for_others m (map read_choice cs)) ≡ map read_choice (if b then for_others m cs else c ∷ for_others m cs)
      go true h = h
      go false h = ap (λ ds. read_choice c ∷ ds) h

  new_read : (cs : List (ℕ × Cert)) → map (resolved_proof v l) (map proof_of cs) ≡ map proof_of (map read_choice cs)
  new_read [] = refl
  new_read (c ∷ cs) = ap (λ qs. record { number = c.0; cert = resolved_cert v l c.1 } ∷ qs) (new_read cs)

  proofs_read : (cs : List (ℕ × Cert)) (qs : List Proof) → map (resolved_proof v l) (with_certs cs qs) ≡ with_certs (map read_choice cs) (map (resolved_proof v l) qs)
  proofs_read cs [] = new_read cs
  proofs_read cs (q ∷ qs) =
      let first : resolved_cert v l (unwrap_or (chosen_for cs q.number) q.cert) ≡ unwrap_or (chosen_for (map read_choice cs) q.number) (resolved_cert v l q.cert) =
      go (chosen_for cs q.number) ∙ ap (λ o. unwrap_or o (resolved_cert v l q.cert)) (sym (chosen_read cs q.number)) in
      let rest = proofs_read (for_others q.number cs) qs ∙ ap (λ ds. with_certs ds (map (resolved_proof v l) qs)) (sym (others_read q.number cs)) in
      λ i. record { number = q.number; cert = first i } ∷ rest i
    where
      go : (o : Option Cert) → resolved_cert v l (unwrap_or o q.cert) ≡ unwrap_or (option_map (resolved_cert v l) o) (resolved_cert v l q.cert)
      go None = refl
      go (Some c) = refl

  module _ (chosen : (place : ℕ) → List (ℕ × Cert)) where
    mutual
      stm_read : (c : Stm) → resolved_stm v l (put_in_stm chosen c) ≡ put_in_stm (λ x. map read_choice (chosen x)) (resolved_stm v l c)
      stm_read (s.branch e a b join) = λ i. s.branch (resolved_term v l e) (block_read a i) (block_read b i) (resolved_state v l join)
      stm_read (s.loop e inv b) = λ i. s.loop (resolved_term v l e) (resolved_state v l inv) (block_read b i)
      stm_read _ = refl

      block_read : (b : Block) → resolved_block v l (put_in chosen b) ≡ put_in (λ x. map read_choice (chosen x)) (resolved_block v l b)
      block_read done = refl
      block_read (more at c proofs b) = λ i. more at (stm_read c i) (proofs_read (chosen at) proofs i) (block_read b i)

  threads_read : (chosen : (t place : ℕ) → List (ℕ × Cert)) (t : ℕ) (hs : List Thread)
      → map (resolved_thread v l) (put_in_threads chosen t hs) ≡ put_in_threads (λ u x. map read_choice (chosen u x)) t (map (resolved_thread v l) hs)
  threads_read chosen t [] = refl
  threads_read chosen t (h ∷ hs) =
      λ i. record {
        name = h.name;
        at = h.at;
        modes = (resolved_thread v l h).modes;
        body = block_read (chosen t) h.body i;
        end = h.end;
      } ∷ threads_read chosen (suc t) hs i

threads_same : (f g : (t place : ℕ) → List (ℕ × Cert)) → ((t place : ℕ) → f t place ≡ g t place) → (t : ℕ) (hs : List Thread) → put_in_threads f t hs ≡ put_in_threads g t hs
threads_same f g e t hs = λ i. put_in_threads (λ u x. e u x i) t hs

pub choices_read : (chosen : (t place : ℕ) → List (ℕ × Cert)) (p : Parsed) → IsWellFormed (resolved p) → AreVariablesNamed p → length p.names ≤ HOLE
    → ((t place : ℕ) → All (λ c. IsCertInRange (length p.vars) (length p.locks) c.1) (chosen t place))
    → resolved (with_choices chosen p) ≡ put_in_program chosen (resolved p)
choices_read chosen p formed named few inside =
    let v = var_id p in
    let l = lock_id p in
    let unresolved : (t place : ℕ) → List (ℕ × Cert) = λ t place. map (unresolved_choice p) (chosen t place) in
    let same : (t place : ℕ) → map (read_choice v l) (unresolved t place) ≡ chosen t place =
    λ t place. again (chosen t place) (inside t place) in
    let threads = threads_read v l unresolved 0 p.threads
    ∙ threads_same (λ u x. map (read_choice v l) (unresolved u x)) chosen same 0 (map (resolved_thread v l) p.threads) in
    λ i. record { version = p.version; vars = (resolved p).vars; locks = (resolved p).locks; threads = threads i }
  where
    again : (cs : List (ℕ × Cert)) → All (λ c. IsCertInRange (length p.vars) (length p.locks) c.1) cs → map (read_choice (var_id p) (lock_id p)) (map (unresolved_choice p) cs) ≡ cs
    again [] h = refl
    again (c ∷ cs) h =
        λ i. (c.0, unresolved_is_read p formed named few (length p.locks) c.1 (All-head (λ c. IsCertInRange (length p.vars) (length p.locks) c.1) c cs h) i)
        ∷ again cs (All-tail (λ c. IsCertInRange (length p.vars) (length p.locks) c.1) c cs h) i

-- Certificates that are put into a text name variables of the text, and so the annotated text is as read and its names are in order.
use Rattle.std.proofs.Common.{◌≡◌, inl, inr, ℕ, suc, ◌<◌, ◌≤◌, ◌==◌, ◌&&◌, List, [], ◌∷◌, ◌++◌, length, map, get_or, Bool, true, false, if◌then◌else◌, Some, None, refl, sym, ap, ◌∙◌, subst, arith, All, IsTrue, true≢false, eq-eqb, ne_eqb, append-nil}
use Rattle.std.specs.Prelude.{flat_map, Contains}
use Rattle.std.proofs.lemmas.Bool.{and_parts}
use Rattle.std.proofs.lemmas.List.Elements.{All-append, All-cons, All-head, All-map, All-nil, All-tail, All-weaker}
use Rattle.std.proofs.lemmas.List.Folds.{list_all-append}
use Rattle.cov_expr.specs.declared.expr.TheConstants.{HOLE}
use Rattle.cov_expr.specs.declared.limits.TheConstants.{MOST_THREADS}
use Rattle.cov_expr.specs.Term.{Term, const, var, neg, bin}
use Rattle.cov_expr.specs.Words.{HasVarsBelow}
use Rattle.cov_ast.specs.Obligations.{all_hold, first_false, Obligation}
use Rattle.cov_ast.specs.Ready.{HasUsesInOrder, IsReady, Use, use_of, uses_in, uses_in_cert}
use Rattle.cov_ast.specs.Syntax.{Cert, Thread, Program, Parsed}
use Rattle.cov_ast.specs.Syntax as s
use Rattle.cov_ast.specs.WellFormed.{IsBodyFine, IsCertInRange, IsSilent, IsTemplateBelow, IsThreadInRange, IsWellFormed}
use Rattle.cov_ast.specs.declared.parsed.NameUse.{NameUse}
use Rattle.cov_ast.proofs.ObligationLaws.{both_hold, none_refused}
use Rattle.policy_class.specs.Resolved.{declared_names, is_among, is_declared, lock_named, lock_names, name_obligations, resolved, resolved_term, resolved_var, text_of, thread_named, use_obligation, var_named, var_names, w1_from}
use Rattle.typing_law.specs.Accepted.{IsAccepted, program_obligations}
use Rattle.annotate.specs.Annotated.{annotated, choices, first_refused}
use Rattle.annotate.specs.AnnotatedText.{annotated_text, AreVariablesNamed, IsAsRead, name_number, unresolved_cert, unresolved_choice, uses_at, with_choices}
use Rattle.annotate.specs.WithCertificates.{put_in_program, put_in_threads}
use Rattle.annotate.proofs.UseLaws.{kept_have, kept_or_new, placed, uses_in_order}
use Rattle.annotate.proofs.TextLaws.{among_at, choices_read, each_named, named_there, names_length}
use Rattle.annotate.proofs.FormedLaws.{block_in_range, block_silent, body_fine, choices_below, each_thread, threads_length_same}

-- Uses in certificates -----------------------------------------------------------------------------------------

-- What is so of the use of each variable of a text is so of each use in a certificate in the numbers of names.
module _ (p : Parsed) (Q : Use → Type 0) (of_variable : (x : ℕ) → x < length p.vars → Q (record { name = name_number p x; lock = false })) where
  used_var : (x : ℕ) → ((x == HOLE) ≡ false → x < length p.vars) → All Q (uses_in (var (resolved_var (name_number p) (λ l. l) x)))
  used_var x h = go (x == HOLE) refl
    where
      named : (b : Bool) → x < length p.vars → All Q (if b then [] else record { name = name_number p x; lock = false } ∷ [])
      named true lt = All-nil Q
      named false lt = All-cons Q (record { name = name_number p x; lock = false }) [] (of_variable x lt) (All-nil Q)

      go : (b : Bool) → (x == HOLE) ≡ b → All Q (uses_in (var (if b then x else name_number p x)))
      go true i = subst (λ b. All Q (if b then [] else record { name = x; lock = false } ∷ [])) (sym i) (All-nil Q)
      go false i = named (name_number p x == HOLE) (h i)

  used_term : (e : Term) → HasVarsBelow e (length p.vars) → All Q (uses_in (resolved_term (name_number p) (λ l. l) e))
  used_term (const k) h = All-nil Q
  used_term (var x) h = used_var x (λ i. h)
  used_term (neg e) h = used_term e h
  used_term (bin op a b) h =
      All-append Q (uses_in (resolved_term (name_number p) (λ l. l) a)) (uses_in (resolved_term (name_number p) (λ l. l) b)) (used_term a h.0) (used_term b h.1)

  used_template : (e : Term) → IsTemplateBelow e (length p.vars) → All Q (uses_in (resolved_term (name_number p) (λ l. l) e))
  used_template (const k) h = All-nil Q
  used_template (var x) (inl h) = used_var x (λ i. h)
  used_template (var x) (inr h) = used_var x (λ i. absurd (true≢false (sym (eq-eqb x HOLE h) ∙ i)))
  used_template (neg e) h = used_template e h
  used_template (bin op a b) h =
      All-append Q (uses_in (resolved_term (name_number p) (λ l. l) a)) (uses_in (resolved_term (name_number p) (λ l. l) b)) (used_template a h.0) (used_template b h.1)

  used_terms : (es : List Term) → All (λ e. HasVarsBelow e (length p.vars)) es → All Q (flat_map uses_in (map (resolved_term (name_number p) (λ l. l)) es))
  used_terms [] h = All-nil Q
  used_terms (e ∷ es) h =
      All-append Q (uses_in (resolved_term (name_number p) (λ l. l) e)) (flat_map uses_in (map (resolved_term (name_number p) (λ l. l)) es))
      (used_term e (All-head (λ e. HasVarsBelow e (length p.vars)) e es h)) (used_terms es (All-tail (λ e. HasVarsBelow e (length p.vars)) e es h))

  used_cert : (locks : ℕ) (c : Cert) → IsCertInRange (length p.vars) locks c → All Q (uses_in_cert (unresolved_cert p c))
  used_cert locks s.auto h = All-nil Q
  used_cert locks (s.hyp i) h = All-nil Q
  used_cert locks s.calc h = All-nil Q
  used_cert locks (s.clash i) h = All-nil Q
  used_cert locks (s.and c d) h = All-append Q (uses_in_cert (unresolved_cert p c)) (uses_in_cert (unresolved_cert p d)) (used_cert locks c h.0) (used_cert locks d h.1)
  used_cert locks (s.left c) h = used_cert locks c h
  used_cert locks (s.right c) h = used_cert locks c h
  used_cert locks (s.unpack i c) h = used_cert locks c h
  used_cert locks (s.cases i c d) h = All-append Q (uses_in_cert (unresolved_cert p c)) (uses_in_cert (unresolved_cert p d)) (used_cert locks c h.0) (used_cert locks d h.1)
  used_cert locks (s.split e c d) h =
      All-append Q (uses_in (resolved_term (name_number p) (λ l. l) e) ++ uses_in_cert (unresolved_cert p c)) (uses_in_cert (unresolved_cert p d))
      (All-append Q (uses_in (resolved_term (name_number p) (λ l. l) e)) (uses_in_cert (unresolved_cert p c)) (used_term e h.0) (used_cert locks c h.1)) (used_cert locks d h.2)
  used_cert locks (s.have e c d) h =
      All-append Q (uses_in (resolved_term (name_number p) (λ l. l) e) ++ uses_in_cert (unresolved_cert p c)) (uses_in_cert (unresolved_cert p d))
      (All-append Q (uses_in (resolved_term (name_number p) (λ l. l) e)) (uses_in_cert (unresolved_cert p c)) (used_term e h.0) (used_cert locks c h.1)) (used_cert locks d h.2)
  used_cert locks (s.absurdity i j) h = All-nil Q
  used_cert locks (s.negation c) h = used_cert locks c h
  used_cert locks (s.contra c) h = used_cert locks c h
  used_cert locks s.reflexive h = All-nil Q
  used_cert locks (s.fwd i e c) h =
      All-append Q (uses_in (resolved_term (name_number p) (λ l. l) e)) (uses_in_cert (unresolved_cert p c)) (used_template e h.0) (used_cert locks c h.1)
  used_cert locks (s.rev i e c) h =
      All-append Q (uses_in (resolved_term (name_number p) (λ l. l) e)) (uses_in_cert (unresolved_cert p c)) (used_template e h.0) (used_cert locks c h.1)
  used_cert locks (s.instance k es c) h =
      All-append Q (flat_map uses_in (map (resolved_term (name_number p) (λ l. l)) es)) (uses_in_cert (unresolved_cert p c)) (used_terms es h.0) (used_cert locks c h.1)
  used_cert locks s.ring h = All-nil Q
  used_cert locks s.range h = All-nil Q

-- Certificates in range of names -------------------------------------------------------------------------------

module _ (p : Parsed) (named : AreVariablesNamed p) where
  -- the number of a variable's name is that of a name, which is the variable's
  name_is : (x : ℕ) → x < length p.vars → (text_of p (name_number p x) ≡ get_or (var_names p) x []) × (name_number p x < length p.names)
  name_is x h =
      named_there p.names (get_or (var_names p) x [])
      (each_named (var_names p) p.names named x (subst (λ n. x < n) (sym (names_length p.vars)) h))

  module _ (small : length p.vars ≤ HOLE) where
    pub var_below : (x : ℕ) → x < length p.vars → resolved_var (name_number p) (λ l. l) x < length p.names
    var_below x h =
        let no_hole : (x == HOLE) ≡ false = ne_eqb x HOLE (λ e. omega (arith, h, small, e)) in
        subst (λ b. (if b then x else name_number p x) < length p.names) (sym no_hole) (name_is x h).1

    term_below : (e : Term) → HasVarsBelow e (length p.vars) → HasVarsBelow (resolved_term (name_number p) (λ l. l) e) (length p.names)
    term_below (const k) h = tt
    term_below (var x) h = var_below x h
    term_below (neg e) h = term_below e h
    term_below (bin op a b) h = (term_below a h.0, term_below b h.1)

    template_below : (e : Term) → IsTemplateBelow e (length p.vars) → IsTemplateBelow (resolved_term (name_number p) (λ l. l) e) (length p.names)
    template_below (const k) h = tt
    template_below (var x) (inl h) = inl (var_below x h)
    template_below (var x) (inr h) = subst (λ y. IsTemplateBelow (var (resolved_var (name_number p) (λ l. l) y)) (length p.names)) (sym h) (inr refl)
    template_below (neg e) h = template_below e h
    template_below (bin op a b) h = (template_below a h.0, template_below b h.1)

    terms_below : (es : List Term) → All (λ e. HasVarsBelow e (length p.vars)) es
        → All (λ e. HasVarsBelow e (length p.names)) (map (resolved_term (name_number p) (λ l. l)) es)
    terms_below es h =
        All-map (λ e. HasVarsBelow e (length p.names)) (resolved_term (name_number p) (λ l. l)) es
        (All-weaker (λ e. HasVarsBelow e (length p.vars)) (λ e. HasVarsBelow (resolved_term (name_number p) (λ l. l) e) (length p.names)) term_below es h)

    cert_below : (locks m : ℕ) (c : Cert) → IsCertInRange (length p.vars) locks c → IsCertInRange (length p.names) m (unresolved_cert p c)
    cert_below locks m s.auto h = tt
    cert_below locks m (s.hyp i) h = tt
    cert_below locks m s.calc h = tt
    cert_below locks m (s.clash i) h = tt
    cert_below locks m (s.and c d) h = (cert_below locks m c h.0, cert_below locks m d h.1)
    cert_below locks m (s.left c) h = cert_below locks m c h
    cert_below locks m (s.right c) h = cert_below locks m c h
    cert_below locks m (s.unpack i c) h = cert_below locks m c h
    cert_below locks m (s.cases i c d) h = (cert_below locks m c h.0, cert_below locks m d h.1)
    cert_below locks m (s.split e c d) h = (term_below e h.0, cert_below locks m c h.1, cert_below locks m d h.2)
    cert_below locks m (s.have e c d) h = (term_below e h.0, cert_below locks m c h.1, cert_below locks m d h.2)
    cert_below locks m (s.absurdity i j) h = tt
    cert_below locks m (s.negation c) h = cert_below locks m c h
    cert_below locks m (s.contra c) h = cert_below locks m c h
    cert_below locks m s.reflexive h = tt
    cert_below locks m (s.fwd i e c) h = (template_below e h.0, cert_below locks m c h.1)
    cert_below locks m (s.rev i e c) h = (template_below e h.0, cert_below locks m c h.1)
    cert_below locks m (s.instance k es c) h = (terms_below es h.0, cert_below locks m c h.1)
    cert_below locks m s.ring h = tt
    cert_below locks m s.range h = tt

-- Obligations --------------------------------------------------------------------------------------------------

-- first refusals behind obligations that hold
pub first_behind : (os rest : List Obligation) → IsTrue (all_hold os) → first_false (os ++ rest) ≡ first_false rest
first_behind [] rest h = refl
first_behind (o ∷ os) rest h = go o.holds h (first_behind os rest)
  where
    go : (b : Bool) → IsTrue (b && all_hold os) → (IsTrue (all_hold os) → first_false (os ++ rest) ≡ first_false rest)
        → (if b then first_false (os ++ rest) else Some o.refusal) ≡ first_false rest
    go true k behind = behind k
    go false k behind = absurd (true≢false (sym k))

pub none_refused_is_accepted : (depth : ℕ) (p : Program)
    → (first_refused depth p ≡ None → IsAccepted (annotated depth p)) × (IsAccepted (annotated depth p) → first_refused depth p ≡ None)
none_refused_is_accepted depth p =
    let os = program_obligations (annotated depth p) in
    (none_refused os, λ h. ap first_false (sym (append-nil os)) ∙ first_behind os [] h)

module _ (p : Parsed) where
  pub all_declared : (us : List NameUse) → IsTrue (all_hold (map (use_obligation p) us)) → All (λ u. IsTrue (is_declared p u)) us
  all_declared [] h = All-nil (λ u. IsTrue (is_declared p u))
  all_declared (u ∷ us) h =
      let both = and_parts (is_declared p u) (all_hold (map (use_obligation p) us)) h in
      All-cons (λ u. IsTrue (is_declared p u)) u us both.0 (all_declared us both.1)

  declared_all : (us : List NameUse) → All (λ u. IsTrue (is_declared p u)) us → IsTrue (all_hold (map (use_obligation p) us))
  declared_all [] h = refl
  declared_all (u ∷ us) h =
      λ i. All-head (λ u. IsTrue (is_declared p u)) u us h i && declared_all us (All-tail (λ u. IsTrue (is_declared p u)) u us h) i

threads_named : (chosen : (t place : ℕ) → List (ℕ × Cert)) (t : ℕ) (hs : List Thread) → map thread_named (put_in_threads chosen t hs) ≡ map thread_named hs
threads_named chosen t [] = refl
threads_named chosen t (h ∷ hs) = ap (λ ns. thread_named h ∷ ns) (threads_named chosen (suc t) hs)

-- Texts --------------------------------------------------------------------------------------------------------

module _ (picked : (t place : ℕ) → List (ℕ × Cert)) (p : Parsed) (below : (t place : ℕ) → All (λ c. IsCertInRange (length p.vars) (length p.locks) c.1) (picked t place))
    (formed : IsWellFormed (resolved p)) (read : IsAsRead p) where
  abbrev unresolved : (t place : ℕ) → List (ℕ × Cert)
  unresolved t place = map (unresolved_choice p) (picked t place)

  -- what is so of the use of each variable, and of each use of the text, is so of each use of the text with what is chosen
  uses_have : (Q : Use → Type 0) → ((x : ℕ) → x < length p.vars → Q (record { name = name_number p x; lock = false }))
      → All (λ u. Q (use_of u)) p.uses → All (λ u. Q (use_of u)) (with_choices picked p).uses
  uses_have Q of_variable h =
      kept_have (λ u. Q (use_of u)) (λ u. Q (use_of u)) (λ u k. k) p.uses (with_choices picked p).uses h
      (kept_or_new (λ u. Q (use_of u)) unresolved inside p)
    where
      of_cert : (place : ℕ) (c : ℕ × Cert) → IsCertInRange (length p.vars) (length p.locks) c.1 → All (λ u. Q (use_of u)) (uses_at place (unresolved_cert p c.1))
      of_cert place c r =
          All-map (λ u. Q (use_of u)) (placed place) (uses_in_cert (unresolved_cert p c.1)) (used_cert p Q of_variable (length p.locks) c.1 r)

      inside : (t place : ℕ) → All (λ c. All (λ u. Q (use_of u)) (uses_at place c.1)) (unresolved t place)
      inside t place =
          All-map (λ c. All (λ u. Q (use_of u)) (uses_at place c.1)) (unresolved_choice p) (picked t place)
          (All-weaker (λ c. IsCertInRange (length p.vars) (length p.locks) c.1) (λ c. All (λ u. Q (use_of u)) (uses_at place (unresolved_cert p c.1))) (of_cert place)
          (picked t place) (below t place))

  certs_below : (m t place : ℕ) → All (λ c. IsCertInRange (length p.names) m c.1) (unresolved t place)
  certs_below m t place =
      let small : length p.vars ≤ HOLE = omega (arith, read.ready.limits.variables) in
      All-map (λ c. IsCertInRange (length p.names) m c.1) (unresolved_choice p) (picked t place)
      (All-weaker (λ c. IsCertInRange (length p.vars) (length p.locks) c.1) (λ c. IsCertInRange (length p.names) m (unresolved_cert p c.1))
      (λ c r. cert_below p read.named small (length p.locks) m c.1 r) (picked t place) (below t place))

  after_in_order : HasUsesInOrder (with_choices picked p)
  after_in_order = uses_in_order unresolved p read.in_order

  after_ready : IsReady (with_choices picked p)
  after_ready =
      let n = length p.names in
      let chosen = unresolved in
      let r = read.ready in
      record {
        ids = record {
          classes = r.ids.classes;
          of_locks = r.ids.of_locks;
          of_threads = each_thread chosen (IsThreadInRange n n) (IsThreadInRange n n)
              (λ t h k. record { modes = k.modes; body = block_in_range (chosen t) n n (certs_below n t) h.body k.body }) 0 p.threads r.ids.of_threads;
        };
        used_ids = uses_have (λ u. u.name < length p.names) (λ x h. (name_is p read.named x h).1) r.used_ids;
        limits = record {
          variables = r.limits.variables;
          declared_locks = r.limits.declared_locks;
          declared_threads = subst (λ m. m ≤ MOST_THREADS) (sym (threads_length_same chosen 0 p.threads)) r.limits.declared_threads;
        };
        bodies = each_thread chosen (λ h. IsBodyFine h.body) (λ h. IsBodyFine h.body) (λ t h k. body_fine (chosen t) h.body k) 0 p.threads r.bodies;
        version = record {
          known = r.version.known;
          silent = λ e. each_thread chosen (λ h. IsSilent h.body) (λ h. IsSilent h.body) (λ t h k. block_silent (chosen t) h.body k) 0 p.threads (r.version.silent e);
        };
        uses = λ u inside. subst (λ us. Contains us u) (sym after_in_order) inside;
      }

  pub choices_as_read : IsAsRead (with_choices picked p)
  choices_as_read = record { ready = after_ready; in_order = after_in_order; named = read.named; few = read.few }

  pub choices_are_read : resolved (with_choices picked p) ≡ put_in_program picked (resolved p)
  choices_are_read = choices_read picked p formed read.named read.few below

  pub names_in_order : IsTrue (all_hold (name_obligations p)) → IsTrue (all_hold (name_obligations (with_choices picked p)))
  names_in_order h =
      let both = both_hold (w1_from [] (declared_names p)) (map (use_obligation p) p.uses) h in
      let declared : declared_names (with_choices picked p) ≡ declared_names p =
      ap (λ ns. map var_named p.vars ++ map lock_named p.locks ++ ns) (threads_named unresolved 0 p.threads) in
      let used = declared_all p (with_choices picked p).uses
      (uses_have (λ u. IsTrue (is_among (if u.lock then lock_names p else var_names p) (text_of p u.name)))
      (λ x k. ap (is_among (var_names p)) (name_is p read.named x k).0 ∙ among_at (var_names p) x (subst (λ n. x < n) (sym (names_length p.vars)) k))
      (all_declared p p.uses both.1)) in
      list_all-append (λ o. o.holds) (w1_from [] (declared_names (with_choices picked p))) (map (use_obligation p) (with_choices picked p).uses)
      ∙ (λ i. (ap (λ ns. all_hold (w1_from [] ns)) declared ∙ both.0) i && used i)

module _ (depth : ℕ) (p : Parsed) (formed : IsWellFormed (resolved p)) (read : IsAsRead p) where
  pub annotated_as_read : IsAsRead (annotated_text depth p)
  annotated_as_read = choices_as_read (choices depth (resolved p)) p (choices_below depth p formed) formed read

  pub annotated_is_read : resolved (annotated_text depth p) ≡ annotated depth (resolved p)
  annotated_is_read = choices_are_read (choices depth (resolved p)) p (choices_below depth p formed) formed read

  pub names_stay : IsTrue (all_hold (name_obligations p)) → IsTrue (all_hold (name_obligations (annotated_text depth p)))
  names_stay = names_in_order (choices depth (resolved p)) p (choices_below depth p formed) formed read

  pub first_is : IsTrue (all_hold (name_obligations p))
      → first_false (name_obligations (annotated_text depth p) ++ program_obligations (resolved (annotated_text depth p))) ≡ first_refused depth (resolved p)
  first_is h =
      first_behind (name_obligations (annotated_text depth p)) (program_obligations (resolved (annotated_text depth p))) (names_stay h)
      ∙ ap (λ q. first_false (program_obligations q)) annotated_is_read

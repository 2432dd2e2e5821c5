-- Parts are read exactly, and what follows for whole objects.
use Rattle.std.proofs.Common.{◌≡◌, ℕ, zero, suc, ◌+◌, ◌-◌, ◌<◌, ◌≤◌, List, [], ◌∷◌, ◌++◌, length, take, flat_map, replicate, refl, ap, sym, ◌∙◌, subst, append_assoc, arith, length-append, Result, Ok, Err, ◌⊎◌, inl, inr}
use Rattle.std.proofs.lemmas.List.{append-nil, take_at}
use Rattle.cov_expr.specs.Names.{IsName}
use Rattle.cov_expr.specs.Words.{IsWord}
use Rattle.risc_machine.specs.declared.parts.Line.{Line}
use Rattle.risc_machine.specs.declared.parts.Parts.{Parts}
use Rattle.risc_machine.specs.declared.parts.ThreadCode.{ThreadCode}
use Rattle.std.specs.List.{AllByRecursion}
use Rattle.std.proofs.lemmas.List.Elements.{All-from_recursion, recursion_from_All}
use Rattle.object_code.specs.Object.{IsLineInRange, IsThreadInRange, four, name, names, line, thread, threads, magic, object, HasObject, IsObjectOf, BeginsObject}
use Rattle.object_code.specs.ObjectAnswers.{IsFaultyByte}
use Rattle.object_code.specs.Inside.ObjectReading.{Reader, ◌>>=◌, then_at, many_at, fixed, within_at, number_at, words, name_at, names_at, line_at, thread_head_at, thread_at, threads_at, magic_at, version_at, front_at, parts_at, all_of, read_all}
use Rattle.object_code.specs.declared.opcode.Declared.{Declared}
use Rattle.object_code.proofs.Exact.{IsExact, StopsAt, Refuses, AreMany, done_is, copies, then_exact, many_exact, nothing_exact}
use Rattle.object_code.proofs.Fields.{Within, within_exact, number_exact}
use Rattle.object_code.proofs.Names.{name_exact, shortest, shortest_is_name}
use Rattle.object_code.proofs.Lines.{line_exact, nothing, nothing_listed}

word_exact : IsExact four (λ n. n < words) (number_at words)
word_exact = number_exact words (omega arith) (omega arith)

-- Names ------------------------------------------------------------------------------------------------------------

abbrev pub AreNames : List (List ℕ) → Type 0
AreNames ns = IsWord (length ns) × AllByRecursion IsName ns

pub names_exact : IsExact names AreNames names_at
unfolding names_at
names_exact = then_exact four (λ n. n < words) (number_at words) (flat_map name) (λ count. AreMany IsName count) (many_at name_at) (λ count ns. ns) names AreNames (record {
  first = word_exact;
  second = λ count h. many_exact name IsName name_at name_exact shortest shortest_is_name count;
  some = λ count h. (replicate count shortest, copies IsName shortest shortest_is_name count);
  spelled = λ count ns h g. ap (λ k. four k ++ flat_map name ns) g.0;
  fits = λ count ns h g. (omega (arith, h, g.0), g.1);
  parts = λ ns h. (length ns, ns, h.0, (refl, h.1), refl);
})

-- Threads ----------------------------------------------------------------------------------------------------------

abbrev head_bytes : List ℕ × ℕ → List ℕ
head_bytes h = name h.0 ++ four h.1

abbrev IsThreadHead : List ℕ × ℕ → Type 0
IsThreadHead h = IsName h.0 × (h.1 < words)

thread_head_exact : IsExact head_bytes IsThreadHead thread_head_at
unfolding thread_head_at
thread_head_exact = then_exact name IsName name_at four (λ _ n. n < words) (λ _. number_at words) (λ n count. (n, count)) head_bytes IsThreadHead (record {
  first = name_exact;
  second = λ n h. word_exact;
  some = λ n h. (0, omega arith);
  spelled = λ n count h g. refl;
  fits = λ n count h g. (h, g);
  parts = λ h g. (h.0, h.1, g.0, g.1, refl);
})

module _ (d : Declared) (vars : IsWord d.vars) (locks : IsWord d.locks) where
  abbrev IsLine : Line → Type 0
  IsLine l = IsLineInRange d.version d.vars d.locks l

  abbrev IsThread : ThreadCode → Type 0
  IsThread t = IsThreadInRange d.version d.vars d.locks t

  thread_exact : IsExact thread IsThread (thread_at d)
  unfolding thread_at
  thread_exact = then_exact head_bytes IsThreadHead thread_head_at (flat_map line) (λ h. AreMany IsLine h.1) (λ h. many_at (line_at d) h.1) (λ h ls. record { name = h.0; lines = ls }) thread IsThread (record {
    first = thread_head_exact;
    second = λ h g. many_exact line IsLine (line_at d) (line_exact d vars locks) nothing (nothing_listed d.version d.vars d.locks) h.1;
    some = λ h g. (replicate h.1 nothing, copies IsLine nothing (nothing_listed d.version d.vars d.locks) h.1);
    spelled = λ h ls g k. ap (λ n. (name h.0 ++ four n) ++ flat_map line ls) k.0;
    fits = λ h ls g k. record { name = g.0; count = omega (arith, g.1, k.0); lines = All-from_recursion IsLine ls k.1 };
    parts = λ t h. ((t.name, length t.lines), t.lines, (h.name, h.count), (refl, recursion_from_All IsLine t.lines h.lines), refl);
  })

  abbrev some_thread : ThreadCode
  some_thread = record { name = shortest; lines = [] }

  some_thread_listed : IsThread some_thread
  some_thread_listed = record { name = shortest_is_name; count = omega arith; lines = All-from_recursion IsLine [] tt }

  abbrev AreThreads : List ThreadCode → Type 0
  AreThreads ts = IsWord (length ts) × AllByRecursion IsThread ts

  threads_exact : IsExact threads AreThreads (threads_at d)
  unfolding threads_at
  threads_exact = then_exact four (λ n. n < words) (number_at words) (flat_map thread) (λ count. AreMany IsThread count) (many_at (thread_at d)) (λ count ts. ts) threads AreThreads (record {
    first = word_exact;
    second = λ count h. many_exact thread IsThread (thread_at d) thread_exact some_thread some_thread_listed count;
    some = λ count h. (replicate count some_thread, copies IsThread some_thread some_thread_listed count);
    spelled = λ count ts h g. ap (λ k. four k ++ flat_map thread ts) g.0;
    fits = λ count ts h g. (omega (arith, h, g.0), g.1);
    parts = λ ts h. (length ts, ts, h.0, (refl, h.1), refl);
  })

-- What stands in front ---------------------------------------------------------------------------------------------

fixed_exact : (ms : List ℕ) → IsExact (λ _. ms) (λ _. Unit {0}) (fixed ms)
fixed_exact [] = nothing_exact (λ _. []) (λ _. Unit {0}) tt refl tt (λ c h. refl)
fixed_exact (m ∷ ms) = then_exact (λ b. b ∷ []) (Within m m) (within_at m m) (λ _. ms) (λ _ _. Unit {0}) (λ _. fixed ms) (λ _ u. u) (λ _. m ∷ ms) (λ _. Unit {0}) (record {
  first = within_exact m m (omega arith);
  second = λ b h. fixed_exact ms;
  some = λ b h. (tt, tt);
  spelled = λ b u h g. ap (λ x. x ∷ ms) (let e : m ≡ b = omega (arith, h.0, h.1) in e);
  fits = λ b u h g. tt;
  parts = λ u h. (m, tt, (omega arith, omega arith), tt, refl);
})

abbrev IsVersion : ℕ → Type 0
IsVersion v = (v ≡ 1) ⊎ (v ≡ 2)

abbrev version_bytes : ℕ → List ℕ
version_bytes v = magic ++ v ∷ []

one_or_two : (v : ℕ) → 1 ≤ v → v ≤ 2 → IsVersion v
one_or_two zero low high = absurd (omega (arith, low))
one_or_two (suc zero) low high = inl refl
one_or_two (suc (suc zero)) low high = inr refl
one_or_two (suc (suc (suc v))) low high = absurd (omega (arith, high))

version_within : (v : ℕ) → IsVersion v → Within 1 2 v
version_within v (inl e) = (omega (arith, e), omega (arith, e))
version_within v (inr e) = (omega (arith, e), omega (arith, e))

version_exact : IsExact version_bytes IsVersion version_at
unfolding version_at magic_at
version_exact = then_exact (λ _. magic) (λ _. Unit {0}) magic_at (λ v. v ∷ []) (λ _. Within 1 2) (λ _. within_at 1 2) (λ _ v. v) version_bytes IsVersion (record {
  first = fixed_exact magic;
  second = λ u h. within_exact 1 2 (omega arith);
  some = λ u h. (1, (omega arith, omega arith));
  spelled = λ u v h g. refl;
  fits = λ u v h g. one_or_two v g.0 g.1;
  parts = λ v h. (tt, v, tt, version_within v h, refl);
})

abbrev WithVars : Type 0
WithVars = ℕ × List (List ℕ)

abbrev Front : Type 0
Front = WithVars × List (List ℕ)

abbrev vars_bytes : WithVars → List ℕ
vars_bytes f = version_bytes f.0 ++ names f.1

abbrev front_bytes : Front → List ℕ
front_bytes f = vars_bytes f.0 ++ names f.1

abbrev HasVars : WithVars → Type 0
HasVars f = IsVersion f.0 × AreNames f.1

abbrev IsFront : Front → Type 0
IsFront f = HasVars f.0 × AreNames f.1

no_names : AreNames []
no_names = (omega arith, tt)

abbrev vars_at : Reader WithVars
vars_at = then_at version_at (λ _. names_at) (λ version vars. (version, vars))

vars_exact : IsExact vars_bytes HasVars vars_at
vars_exact = then_exact version_bytes IsVersion version_at names (λ _. AreNames) (λ _. names_at) (λ version vars. (version, vars)) vars_bytes HasVars (record {
  first = version_exact;
  second = λ v h. names_exact;
  some = λ v h. ([], no_names);
  spelled = λ v ns h g. refl;
  fits = λ v ns h g. (h, g);
  parts = λ f h. (f.0, f.1, h.0, h.1, refl);
})

front_exact : IsExact front_bytes IsFront front_at
unfolding front_at
front_exact = then_exact vars_bytes HasVars vars_at names (λ _. AreNames) (λ _. names_at) (λ front locks. (front, locks)) front_bytes IsFront (record {
  first = vars_exact;
  second = λ f h. names_exact;
  some = λ f h. ([], no_names);
  spelled = λ f ns h g. refl;
  fits = λ f ns h g. (h, g);
  parts = λ f h. (f.0, f.1, h.0, h.1, refl);
})

abbrev declared : Front → Declared
declared f = record { version = f.0.0; vars = length f.0.1; locks = length f.1 }

made_whole : (f : Front) (ts : List ThreadCode) → IsFront f → IsWord (length ts) × AllByRecursion (IsThreadInRange f.0.0 (length f.0.1) (length f.1)) ts
    → HasObject (record { version = f.0.0; vars = f.0.1; locks = f.1; threads = ts })
made_whole f ts h g = record {
  version = h.0.0;
  var_count = h.0.1.0;
  lock_count = h.1.0;
  thread_count = g.0;
  vars = All-from_recursion IsName f.0.1 h.0.1.1;
  locks = All-from_recursion IsName f.1 h.1.1;
  threads = All-from_recursion (IsThreadInRange f.0.0 (length f.0.1) (length f.1)) ts g.1;
}

pub parts_exact : IsExact object HasObject parts_at
unfolding parts_at
parts_exact = then_exact front_bytes IsFront front_at threads (λ f ts. IsWord (length ts) × AllByRecursion (IsThreadInRange f.0.0 (length f.0.1) (length f.1)) ts) (λ f. threads_at (declared f))
    (λ f ts. record { version = f.0.0; vars = f.0.1; locks = f.1; threads = ts }) object HasObject (record {
      first = front_exact;
      second = λ f h. threads_exact (declared f) h.0.1.0 h.1.0;
      some = λ f h. ([], (omega arith, tt));
      spelled = λ f ts h g. refl;
      fits = made_whole;
      parts = λ p h. (
        ((p.version, p.vars), p.locks),
        p.threads,
        ((h.version, (h.var_count, recursion_from_All IsName p.vars h.vars)), (h.lock_count, recursion_from_All IsName p.locks h.locks)),
        (h.thread_count, recursion_from_All (IsThreadInRange p.version (length p.vars) (length p.locks)) p.threads h.threads),
        refl,
      );
    })

-- Objects ----------------------------------------------------------------------------------------------------------

-- an object is read to its end, and no further
pub object_read : (p : Parts) (rest : List ℕ) → HasObject p → parts_at (object p ++ rest) ≡ Ok (p, rest)
object_read p rest h = parts_exact.again p rest h

two_objects : (p q : Parts) (xs ys : List ℕ) → HasObject p → HasObject q → object p ++ xs ≡ object q ++ ys → (p ≡ q) × (xs ≡ ys)
two_objects p q xs ys h g e =
    let one : Parts × List ℕ = (p, xs) in
    let other : Parts × List ℕ = (q, ys) in
    let same = done_is one other (sym (object_read p xs h) ∙ ap parts_at e ∙ object_read q ys g) in
    (ap (λ (x : Parts × List ℕ). x.0) same, ap (λ (x : Parts × List ℕ). x.1) same)

pub begins_no_other : (p q : Parts) (rest : List ℕ) → HasObject p → HasObject q → object q ≡ object p ++ rest → rest ≡ []
begins_no_other p q rest h g e = (two_objects p q rest [] h g (sym e ∙ sym (append-nil (object q)))).1

pub one_to_one : (p q : Parts) → HasObject p → HasObject q → object p ≡ object q → p ≡ q
one_to_one p q h g e = (two_objects p q [] [] h g (ap (λ x. x ++ []) e)).0

-- What reading answers ---------------------------------------------------------------------------------------------

all_is : (x : Parts × List ℕ) (p : Parts) → all_of x ≡ Ok p → (x.1 ≡ []) × (x.0 ≡ p)
all_is (q, []) p e = (refl, done_is q p e)
all_is (q, b ∷ bs) p e = absurd cc

module _ (bytes : List ℕ) where
  -- the parts that were read, and what stands behind them
  cases : (r : Result (Parts × List ℕ) ℕ) → parts_at bytes ≡ r → (p : Parts) → (r >>= all_of) ≡ Ok p → IsObjectOf p bytes
  cases (Ok x) is p e =
      let a = all_is x p e in
      let s = parts_exact.sound bytes x.0 x.1 is in
      record { whole = subst HasObject a.1 s.0; spelling = s.1 ∙ ap (λ rest. object x.0 ++ rest) a.0 ∙ append-nil (object x.0) ∙ ap object a.1 }
  cases (Err n) is p e = absurd cc

  pub read_is : (p : Parts) → read_all bytes ≡ Ok p → IsObjectOf p bytes
  read_is p e = cases (parts_at bytes) refl p e

  pub object_is : (p : Parts) → IsObjectOf p bytes → read_all bytes ≡ Ok p
  object_is p h = ap read_all (h.spelling ∙ sym (append-nil (object p))) ∙ ap (λ r. r >>= all_of) (object_read p [] h.whole)

-- no object goes on with the bytes in front and the first behind them
refused_front : (read : Reader Parts) → read ≡ parts_at → (front back : List ℕ) (b : ℕ) → Refuses read front (b ∷ back) → BeginsObject (front ++ b ∷ []) → ⊥
refused_front read is front back b refuses h =
    let p = h.0 in
    let rest = h.2 in
    let r = refuses rest in
    let good : read (front ++ b ∷ rest) ≡ Ok (p, []) =
    ap read (sym (append_assoc front (b ∷ []) rest) ∙ sym h.3 ∙ sym (append-nil (object p))) ∙ ap (λ (f : Reader Parts). f (object p ++ [])) is ∙ object_read p [] h.1 in
    let no = sym r ∙ good in
    absurd (cc (no))

-- bytes that are cut where `left` of them are left
pub record IsCut (bytes : List ℕ) (left : ℕ) : Type 0 where
  pub front : List ℕ
  pub back : List ℕ
  pub parts : bytes ≡ front ++ back
  pub count : length back ≡ left
  pub begins : BeginsObject front
  pub refused : (b : ℕ) (more : List ℕ) → back ≡ b ∷ more → BeginsObject (front ++ b ∷ []) → ⊥

stopped : (bytes : List ℕ) (left : ℕ) → StopsAt object HasObject parts_at bytes left → IsCut bytes left
stopped bytes left s = record {
  front = s.front;
  back = s.back;
  parts = s.parts;
  count = s.count;
  begins = (s.item, s.inside, s.more, s.begun);
  refused = λ b more is h. refused_front parts_at refl s.front more b (subst (Refuses parts_at s.front) is s.refuses) h;
}

-- something stands behind an object
behind : (bytes : List ℕ) (p : Parts) (b : ℕ) (bs : List ℕ) (left : ℕ) → HasObject p → bytes ≡ object p ++ b ∷ bs → length (b ∷ bs) ≡ left → IsCut bytes left
behind bytes p b bs left whole is count = record {
  front = object p;
  back = b ∷ bs;
  parts = is;
  count = count;
  begins = (p, whole, [], sym (append-nil (object p)));
  refused = λ c more e h. no c h;
}
  where
    no : (c : ℕ) → BeginsObject (object p ++ c ∷ []) → ⊥
    no c h =
        let none = begins_no_other p h.0 (c ∷ h.2) whole h.1 (h.3 ∙ append_assoc (object p) (c ∷ []) h.2) in
        absurd (cc (none))

cut_of : (bytes : List ℕ) (left : ℕ) (r : Result (Parts × List ℕ) ℕ) → parts_at bytes ≡ r → (r >>= all_of) ≡ Err left → IsCut bytes left
cut_of bytes left (Err n) is e = let same : n ≡ left = cc (e) in stopped bytes left (parts_exact.stops bytes left (is ∙ ap Err same))
cut_of bytes left (Ok (p, [])) is e = absurd (cc (e))
cut_of bytes left (Ok (p, b ∷ bs)) is e = let s = parts_exact.sound bytes p (b ∷ bs) is in behind bytes p b bs left s.0 s.1 (let same : length (b ∷ bs) ≡ left = cc (e) in same)

faulty_cut : (bytes : List ℕ) (left : ℕ) → ((p : Parts) → IsObjectOf p bytes → ⊥) → IsCut bytes left → IsFaultyByte bytes (length bytes - left)
faulty_cut bytes left unread c =
    let whole : length bytes ≡ length c.front + length c.back = ap length c.parts ∙ length-append c.front c.back in
    let at : length c.front ≡ length bytes - left = omega (arith, whole, c.count) in
    record {
      unread = unread;
      within = omega arith;
      before = subst BeginsObject (sym (ap (take (length bytes - left)) c.parts ∙ take_at c.front c.back (length bytes - left) at)) c.begins;
      faulty = λ inside h. by c.back refl inside h;
    }
  where
    by : (back : List ℕ) → c.back ≡ back → length bytes - left < length bytes → BeginsObject (take (length bytes - left + 1) bytes) → ⊥
    by [] is inside h =
        let none : length c.back ≡ 0 = ap length is in
        omega (arith, none, c.count, inside)
    by (b ∷ more) is inside h =
        let whole : length bytes ≡ length c.front + length c.back = ap length c.parts ∙ length-append c.front c.back in
        let at : length (c.front ++ b ∷ []) ≡ length bytes - left + 1 = omega (arith, whole, c.count, length-append c.front (b ∷ [])) in
        let parted : bytes ≡ (c.front ++ b ∷ []) ++ more = c.parts ∙ ap (λ x. c.front ++ x) is ∙ sym (append_assoc c.front (b ∷ []) more) in
        c.refused b more is (subst BeginsObject (ap (take (length bytes - left + 1)) parted ∙ take_at (c.front ++ b ∷ []) more (length bytes - left + 1) at) h)

pub stop_is_faulty : (bytes : List ℕ) (left : ℕ) → read_all bytes ≡ Err left → IsFaultyByte bytes (length bytes - left)
stop_is_faulty bytes left e = faulty_cut bytes left (λ p h. no p h) (cut_of bytes left (parts_at bytes) refl e)
  where
    no : (p : Parts) → IsObjectOf p bytes → ⊥
    no p h = let bad = sym (object_is bytes p h) ∙ e in cc (bad)

-- no more bytes are left than there are
pub left_within : (bytes : List ℕ) (left : ℕ) → read_all bytes ≡ Err left → left ≤ length bytes
left_within bytes left e =
    let c = cut_of bytes left (parts_at bytes) refl e in
    let whole : length bytes ≡ length c.front + length c.back = ap length c.parts ∙ length-append c.front c.back in
    omega (arith, whole, c.count)

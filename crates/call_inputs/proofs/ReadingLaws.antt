-- Laws of readings, whatever is read: how one goes on behind another, and what the calls of a shelf say of its files.
use Rattle.std.proofs.Common.{◌≡◌, ◌⊎◌, ℕ, ◌<◌, ◌≤◌, nat_lt, List, true, false, cond, Result, Option, Ok, Err, Some, None, IfSome, IsSomeAnd, IsNone, IsTrue, length, refl, subst, ap, sym, ◌∙◌, inl, inr, arith}
use Rattle.std.proofs.lemmas.Bool.Decides.{nat_tests}
use Rattle.cov_io.specs.Counters.{Rose}
use Rattle.cov_io.specs.Shelves.{File, Shelved, Passes, held}
use Rattle.cov_io.specs.declared.shelf.Fetched.{Fetched}
use Rattle.cov_io.specs.declared.shelf.Fetched.TheVariants.{Whole, TooLong}
use Rattle.cov_io.specs.declared.shelf.ShelfFault.{ShelfFault}
use Rattle.cov_io.specs.declared.shelf.ShelfFault.TheVariants.{Failed, NoMemory}
use Rattle.cov_io.proofs.CountLaws.{grew_within}
use Rattle.cov_io.proofs.ShelfLaws.{passes_none, passes_both}
use Rattle.call_reports.specs.Replies.{Reply, malformed, read_fault, too_long}
use Rattle.call_reports.specs.declared.answers.Fault.{Fault}
use Rattle.call_inputs.specs.Readings.{Calls, End, FollowsBytes, FollowsCall, Over, Reading, Reads, Takes, answer_by, argument, file, gives, lacks, stops, then_read, took, tries}
use Rattle.call_inputs.specs.Rejections.{Rejection, rejected}

-- What follows a call ------------------------------------------------------------------------------------------

module _ {B : Type 0} (IsRead : List ℕ → B → Type 0) (IsFault : List ℕ → Fault → Type 0) (title : List ℕ)
    (goes_on goes_on' : B → Type 0) (replies replies' : Reply → Type 0) (Lacks Lacks' : Type 0)
    (each : (x : B) → goes_on x → goes_on' x) (reply_each : (reply : Reply) → replies reply → replies' reply) (lack : Lacks → Lacks') where
  pub bytes_onward : (bytes : List ℕ) → FollowsBytes IsRead IsFault title goes_on replies Lacks bytes
      → FollowsBytes IsRead IsFault title goes_on' replies' Lacks' bytes
  bytes_onward bytes (inl (x, is_read, h)) = inl (x, is_read, each x h)
  bytes_onward bytes (inr (inl (fault, is, h))) = inr (inl (fault, is, reply_each (malformed title fault) h))
  bytes_onward bytes (inr (inr h)) = inr (inr (lack h))

  pub call_onward : (answer : Result Fetched ShelfFault) → FollowsCall IsRead IsFault title goes_on replies Lacks answer
      → FollowsCall IsRead IsFault title goes_on' replies' Lacks' answer
  call_onward (Ok (Whole bytes)) h = bytes_onward bytes h
  call_onward (Ok TooLong) h = reply_each (too_long title) h
  call_onward (Err Failed) h = reply_each (read_fault title) h
  call_onward (Err NoMemory) h = lack h

-- a fact that follows in each case
module _ {B : Type 0} (IsRead : List ℕ → B → Type 0) (IsFault : List ℕ → Fault → Type 0) (title : List ℕ)
    (goes_on : B → Type 0) (replies : Reply → Type 0) (Lacks : Type 0) (P : Type 0)
    (each : (x : B) → goes_on x → P) (reply_each : (reply : Reply) → replies reply → P) (lack : Lacks → P) where
  pub behind_bytes : (bytes : List ℕ) → FollowsBytes IsRead IsFault title goes_on replies Lacks bytes → P
  behind_bytes bytes (inl (x, is_read, h)) = each x h
  behind_bytes bytes (inr (inl (fault, is, h))) = reply_each (malformed title fault) h
  behind_bytes bytes (inr (inr h)) = lack h

  pub behind_call : (answer : Result Fetched ShelfFault) → FollowsCall IsRead IsFault title goes_on replies Lacks answer → P
  behind_call (Ok (Whole bytes)) h = behind_bytes bytes h
  behind_call (Ok TooLong) h = reply_each (too_long title) h
  behind_call (Err Failed) h = reply_each (read_fault title) h
  behind_call (Err NoMemory) h = lack h

-- By the calls of a shelf --------------------------------------------------------------------------------------

module _ {A : Type 0} (left left' : Shelved → End A → Type 0) (each : (shelf : Shelved) (end : End A) → left shelf end → left' shelf end) where
  pub reads_onward : (shelf : Shelved) (reading : Reading A) → Reads left shelf reading → Reads left' shelf reading
  reads_onward shelf (gives x) h = each shelf (took x) h
  reads_onward shelf (tries None next) (inl h) = inl (reads_onward shelf next h)
  reads_onward shelf (tries None next) (inr h) = inr (each shelf lacks h)
  reads_onward shelf (tries (Some rejection) next) (inl h) = inl (each shelf (stops (rejected rejection)) h)
  reads_onward shelf (tries (Some rejection) next) (inr h) = inr (each shelf lacks h)
  reads_onward shelf (file name most IsRead IsFault next) (after, answer, call, h) = (
    after,
    answer,
    call,
    call_onward IsRead IsFault name (λ x. Reads left after (next x)) (λ x. Reads left' after (next x)) (λ reply. left after (stops reply))
        (λ reply. left' after (stops reply)) (left after lacks) (left' after lacks) (λ x. reads_onward after (next x)) (λ reply. each after (stops reply))
        (each after lacks) answer h,
  )
  reads_onward shelf (argument title bytes IsRead IsFault next) h =
      bytes_onward IsRead IsFault title (λ x. Reads left shelf (next x)) (λ x. Reads left' shelf (next x)) (λ reply. left shelf (stops reply))
      (λ reply. left' shelf (stops reply)) (left shelf lacks) (left' shelf lacks) (λ x. reads_onward shelf (next x)) (λ reply. each shelf (stops reply))
      (each shelf lacks) bytes h

-- what is said of a reading behind which another goes on
abbrev pub Onward : {A B : Type 0} → (left : Shelved → End B → Type 0) → (next : A → Reading B) → Shelved → End A → Type 0
Onward left next shelf (took x) = Reads left shelf (next x)
Onward left next shelf (stops reply) = left shelf (stops reply)
Onward left next shelf lacks = left shelf lacks

module _ {A B : Type 0} (left : Shelved → End B → Type 0) (next : A → Reading B) where
  pub reads_then : (shelf : Shelved) (reading : Reading A) → Reads (Onward left next) shelf reading → Reads left shelf (then_read reading next)
  reads_then shelf (gives x) h = h
  reads_then shelf (tries None rest) (inl h) = inl (reads_then shelf rest h)
  reads_then shelf (tries None rest) (inr h) = inr h
  reads_then shelf (tries (Some rejection) rest) (inl h) = inl h
  reads_then shelf (tries (Some rejection) rest) (inr h) = inr h
  reads_then shelf (file name most IsRead IsFault rest) (after, answer, call, h) = (
    after,
    answer,
    call,
    call_onward IsRead IsFault name (λ x. Reads (Onward left next) after (rest x)) (λ x. Reads left after (then_read (rest x) next))
        (λ reply. left after (stops reply)) (λ reply. left after (stops reply)) (left after lacks) (left after lacks)
        (λ x. reads_then after (rest x)) (λ reply k. k) (λ k. k) answer h,
  )
  reads_then shelf (argument title bytes IsRead IsFault rest) h =
      bytes_onward IsRead IsFault title (λ x. Reads (Onward left next) shelf (rest x)) (λ x. Reads left shelf (then_read (rest x) next))
      (λ reply. left shelf (stops reply)) (λ reply. left shelf (stops reply)) (left shelf lacks) (left shelf lacks)
      (λ x. reads_then shelf (rest x)) (λ reply k. k) (λ k. k) bytes h

-- calls pass on what a shelf is
module _ {A : Type 0} (left : Shelved → End A → Type 0) (last : Shelved) (passed : (shelf : Shelved) (end : End A) → left shelf end → Passes shelf last) where
  pub reads_pass : (shelf : Shelved) (reading : Reading A) → Reads left shelf reading → Passes shelf last
  reads_pass shelf (gives x) h = passed shelf (took x) h
  reads_pass shelf (tries None next) (inl h) = reads_pass shelf next h
  reads_pass shelf (tries None next) (inr h) = passed shelf lacks h
  reads_pass shelf (tries (Some rejection) next) (inl h) = passed shelf (stops (rejected rejection)) h
  reads_pass shelf (tries (Some rejection) next) (inr h) = passed shelf lacks h
  reads_pass shelf (file name most IsRead IsFault next) (after, answer, call, h) =
      passes_both shelf after last call.passes (behind_call IsRead IsFault name (λ x. Reads left after (next x)) (λ reply. left after (stops reply)) (left after lacks)
      (Passes after last) (λ x. reads_pass after (next x)) (λ reply. passed after (stops reply)) (passed after lacks) answer h)
  reads_pass shelf (argument title bytes IsRead IsFault next) h =
      behind_bytes IsRead IsFault title (λ x. Reads left shelf (next x)) (λ reply. left shelf (stops reply)) (left shelf lacks)
      (Passes shelf last) (λ x. reads_pass shelf (next x)) (λ reply. passed shelf (stops reply)) (passed shelf lacks) bytes h

-- What the files say -------------------------------------------------------------------------------------------

-- No call of the shelf fails but for a name that isn't there, or none fails at all.
abbrev pub Reliable : (before after : Shelved) → Type 0
Reliable before after = IsTrue before.sure ⊎ (Rose before.faults after.faults → ⊥)

reliable_later : (a b c : Shelved) → Passes a b → Reliable a c → Reliable b c
reliable_later a b c passes (inl sure) = inl (subst IsTrue (sym passes.sure) sure)
reliable_later a b c passes (inr quiet) = inr (λ rose. quiet (grew_within 0 _ _ _ _ passes.faults (omega arith) rose))

not_above : (most n : ℕ) → n ≤ most → nat_lt most n ≡ false
not_above most n h = grind (arith, nat_tests)

above : (most n : ℕ) → most < n → nat_lt most n ≡ true
above most n h = grind (arith, nat_tests)

pub answer_whole : (most : ℕ) (o : Option (List ℕ)) (bytes : List ℕ) → o ≡ Some bytes → length bytes ≤ most → Ok (Whole bytes) ≡ answer_by most o
answer_whole most o bytes at fits =
    sym (ap (answer_by most) at ∙ ap (λ b. Ok (cond b TooLong (Whole bytes))) (not_above most (length bytes) fits))

answer_long : (most : ℕ) (o : Option (List ℕ)) → IsSomeAnd o (λ bytes. most < length bytes) → Ok TooLong ≡ answer_by most o
answer_long most None long = absurd long
answer_long most (Some bytes) long = sym (ap (λ b. Ok (cond b TooLong (Whole bytes))) (above most (length bytes) long))

answer_none : (most : ℕ) (o : Option (List ℕ)) → IsNone o → Err Failed ≡ answer_by most o
answer_none most None none = refl
answer_none most (Some bytes) none = cc

-- a call of a shelf that tells, and that isn't failed, answers by its files, unless memory runs out
answer_told : (before between after : Shelved) (files : List File) (name : List ℕ) (most : ℕ) (answer : Result Fetched ShelfFault) → before.told ≡ Some files
    → Reliable before after → Passes between after → Calls before between name most answer → (answer ≡ answer_by most (held files name)) ⊎ (answer ≡ Err NoMemory)
answer_told before between after files name most (Ok (Whole bytes)) told reliable later call =
    inl (answer_whole most (held files name) bytes (subst (λ t. IfSome t (λ fs. held fs name ≡ Some bytes)) told call.gives.1) call.gives.0)
answer_told before between after files name most (Ok TooLong) told reliable later call =
    inl (answer_long most (held files name) (subst (λ t. IfSome t (λ fs. IsSomeAnd (held fs name) (λ bytes. most < length bytes))) told call.gives.1))
answer_told before between after files name most (Err Failed) told (inl sure) later call =
    inl (answer_none most (held files name) (subst (λ t. IfSome t (λ fs. IsNone (held fs name))) told (call.gives.1 sure)))
answer_told before between after files name most (Err Failed) told (inr quiet) later call =
    absurd (quiet (grew_within 0 _ _ _ _ (omega arith) later.faults call.gives.0))
answer_told before between after files name most (Err NoMemory) told reliable later call = inr refl

-- what follows, or what comes of want of memory
module _ {B : Type 0} (IsRead : List ℕ → B → Type 0) (IsFault : List ℕ → Fault → Type 0) (title : List ℕ)
    (goes_on goes_on' : B → Type 0) (replies replies' : Reply → Type 0) (Lacks Out : Type 0)
    (each : (x : B) → goes_on x → goes_on' x ⊎ Out) (reply_each : (reply : Reply) → replies reply → replies' reply) (lack : Lacks → Out) where
  bytes_or : (bytes : List ℕ) → FollowsBytes IsRead IsFault title goes_on replies Lacks bytes
      → FollowsBytes IsRead IsFault title goes_on' replies' ⊥ bytes ⊎ Out
  bytes_or bytes (inl (x, is_read, h)) = by (each x h)
    where
      by : goes_on' x ⊎ Out → FollowsBytes IsRead IsFault title goes_on' replies' ⊥ bytes ⊎ Out
      by (inl k) = inl (inl (x, is_read, k))
      by (inr out) = inr out
  bytes_or bytes (inr (inl (fault, is, h))) = inl (inr (inl (fault, is, reply_each (malformed title fault) h)))
  bytes_or bytes (inr (inr h)) = inr (lack h)

  call_or : (answer : Result Fetched ShelfFault) → FollowsCall IsRead IsFault title goes_on replies Lacks answer
      → FollowsCall IsRead IsFault title goes_on' replies' ⊥ answer ⊎ Out
  call_or (Ok (Whole bytes)) h = bytes_or bytes h
  call_or (Ok TooLong) h = inl (reply_each (too_long title) h)
  call_or (Err Failed) h = inl (reply_each (read_fault title) h)
  call_or (Err NoMemory) h = inr (lack h)

-- The shelf is left so, and this is said of how the reading ends.
abbrev pub LeftAt : {A : Type 0} → (last : Shelved) (ends : End A → Type 0) → Shelved → End A → Type 0
LeftAt last ends shelf end = (shelf ≡ last) × ends end

module _ {A : Type 0} (ends : End A → Type 0) (last : Shelved) where
  pub left_passes : (shelf : Shelved) (end : End A) → LeftAt last ends shelf end → Passes shelf last
  left_passes shelf end h = subst (Passes shelf) h.0 (passes_none shelf)

  -- calls that are made in a file's turn
  later_passes : {B : Type 0} (IsRead : List ℕ → B → Type 0) (IsFault : List ℕ → Fault → Type 0) (name : List ℕ) (next : B → Reading A) (after : Shelved)
      (answer : Result Fetched ShelfFault)
      → FollowsCall IsRead IsFault name (λ x. Reads (LeftAt last ends) after (next x)) (λ reply. LeftAt last ends after (stops reply)) (LeftAt last ends after lacks) answer
      → Passes after last
  later_passes IsRead IsFault name next after answer h =
      behind_call IsRead IsFault name (λ x. Reads (LeftAt last ends) after (next x)) (λ reply. LeftAt last ends after (stops reply)) (LeftAt last ends after lacks)
      (Passes after last) (λ x. reads_pass (LeftAt last ends) last left_passes after (next x)) (λ reply. left_passes after (stops reply))
      (left_passes after lacks) answer h

  file_exact : {B : Type 0} (shelf after : Shelved) (files : List File) (name : List ℕ) (most : ℕ) (IsRead : List ℕ → B → Type 0) (IsFault : List ℕ → Fault → Type 0)
      (next : B → Reading A) (answer : Result Fetched ShelfFault)
      → FollowsCall IsRead IsFault name (λ x. Reads (LeftAt last ends) after (next x)) (λ reply. LeftAt last ends after (stops reply)) (LeftAt last ends after lacks) answer
      → (answer ≡ answer_by most (held files name)) ⊎ (answer ≡ Err NoMemory)
      → ((x : B) → Reads (LeftAt last ends) after (next x) → Over files ends (next x) ⊎ ends lacks)
      → FollowsCall IsRead IsFault name (λ x. Over files ends (next x)) (λ reply. ends (stops reply)) ⊥ (answer_by most (held files name)) ⊎ ends lacks
  file_exact shelf after files name most IsRead IsFault next answer h (inl e) each =
      call_or IsRead IsFault name (λ x. Reads (LeftAt last ends) after (next x)) (λ x. Over files ends (next x)) (λ reply. LeftAt last ends after (stops reply))
      (λ reply. ends (stops reply)) (LeftAt last ends after lacks) (ends lacks) each (λ reply k. k.1) (λ k. k.1) (answer_by most (held files name))
      (subst (FollowsCall IsRead IsFault name (λ x. Reads (LeftAt last ends) after (next x)) (λ reply. LeftAt last ends after (stops reply)) (LeftAt last ends after lacks)) e h)
  file_exact shelf after files name most IsRead IsFault next answer h (inr e) each =
      inr (subst (FollowsCall IsRead IsFault name (λ x. Reads (LeftAt last ends) after (next x)) (λ reply. LeftAt last ends after (stops reply)) (LeftAt last ends after lacks)) e h).1

  module _ (files : List File) where
    -- What the calls give is what the files say, or memory ran out.
    pub reads_exact : (shelf : Shelved) (reading : Reading A) → shelf.told ≡ Some files → Reliable shelf last → Reads (LeftAt last ends) shelf reading
        → Over files ends reading ⊎ ends lacks
    reads_exact shelf (gives x) told reliable h = inl h.1
    reads_exact shelf (tries None next) told reliable (inl h) = reads_exact shelf next told reliable h
    reads_exact shelf (tries None next) told reliable (inr h) = inr h.1
    reads_exact shelf (tries (Some rejection) next) told reliable (inl h) = inl h.1
    reads_exact shelf (tries (Some rejection) next) told reliable (inr h) = inr h.1
    reads_exact shelf (file name most IsRead IsFault next) told reliable (after, answer, call, h) =
        let later = later_passes IsRead IsFault name next after answer h in
        file_exact shelf after files name most IsRead IsFault next answer h (answer_told shelf after last files name most answer told reliable later call)
        (λ x. reads_exact after (next x) (call.passes.told ∙ told) (reliable_later shelf after last call.passes reliable))
    reads_exact shelf (argument title bytes IsRead IsFault next) told reliable h =
        bytes_or IsRead IsFault title (λ x. Reads (LeftAt last ends) shelf (next x)) (λ x. Over files ends (next x)) (λ reply. LeftAt last ends shelf (stops reply))
        (λ reply. ends (stops reply)) (LeftAt last ends shelf lacks) (ends lacks) (λ x. reads_exact shelf (next x) told reliable) (λ reply k. k.1) (λ k. k.1) bytes h

    -- Where it ends by taking all, or with a reply that no reading stops with, all is there that it reads.
    module _ (IsStop : Reply → Type 0) (rejects : (rejection : Rejection) → IsStop (rejected rejection)) (faulty : (title : List ℕ) (fault : Fault) → IsStop (malformed title fault))
        (long : (name : List ℕ) → IsStop (too_long name)) (failed : (name : List ℕ) → IsStop (read_fault name))
        (never : (reply : Reply) → IsStop reply → ends (stops reply) → ⊥) (not_lacks : ends lacks → ⊥) where
      bytes_took : {B : Type 0} (IsRead : List ℕ → B → Type 0) (IsFault : List ℕ → Fault → Type 0) (title : List ℕ) (next : B → Reading A) (shelf : Shelved) (bytes : List ℕ)
          → ((x : B) → Reads (LeftAt last ends) shelf (next x) → Takes files (λ y. ends (took y)) (next x))
          → FollowsBytes IsRead IsFault title (λ x. Reads (LeftAt last ends) shelf (next x)) (λ reply. LeftAt last ends shelf (stops reply)) (LeftAt last ends shelf lacks) bytes
          → (x : B) × IsRead bytes x × Takes files (λ y. ends (took y)) (next x)
      bytes_took IsRead IsFault title next shelf bytes each (inl (x, is_read, h)) = (x, is_read, each x h)
      bytes_took IsRead IsFault title next shelf bytes each (inr (inl (fault, is, h))) = absurd (never (malformed title fault) (faulty title fault) h.1)
      bytes_took IsRead IsFault title next shelf bytes each (inr (inr h)) = absurd (not_lacks h.1)

      file_took : {B : Type 0} (IsRead : List ℕ → B → Type 0) (IsFault : List ℕ → Fault → Type 0) (name : List ℕ) (most : ℕ) (next : B → Reading A) (shelf after : Shelved)
          (answer : Result Fetched ShelfFault) → shelf.told ≡ Some files → Calls shelf after name most answer
          → ((x : B) → Reads (LeftAt last ends) after (next x) → Takes files (λ y. ends (took y)) (next x))
          → FollowsCall IsRead IsFault name (λ x. Reads (LeftAt last ends) after (next x)) (λ reply. LeftAt last ends after (stops reply)) (LeftAt last ends after lacks) answer
          → Takes files (λ y. ends (took y)) (file name most IsRead IsFault next)
      file_took IsRead IsFault name most next shelf after (Ok (Whole bytes)) told call each h =
          (bytes, subst (λ t. IfSome t (λ fs. held fs name ≡ Some bytes)) told call.gives.1, call.gives.0, bytes_took IsRead IsFault name next after bytes each h)
      file_took IsRead IsFault name most next shelf after (Ok TooLong) told call each h = absurd (never (too_long name) (long name) h.1)
      file_took IsRead IsFault name most next shelf after (Err Failed) told call each h = absurd (never (read_fault name) (failed name) h.1)
      file_took IsRead IsFault name most next shelf after (Err NoMemory) told call each h = absurd (not_lacks h.1)

      pub reads_took : (shelf : Shelved) (reading : Reading A) → shelf.told ≡ Some files → Reads (LeftAt last ends) shelf reading
          → Takes files (λ y. ends (took y)) reading
      reads_took shelf (gives x) told h = h.1
      reads_took shelf (tries None next) told (inl h) = (refl, reads_took shelf next told h)
      reads_took shelf (tries None next) told (inr h) = absurd (not_lacks h.1)
      reads_took shelf (tries (Some rejection) next) told (inl h) = absurd (never (rejected rejection) (rejects rejection) h.1)
      reads_took shelf (tries (Some rejection) next) told (inr h) = absurd (not_lacks h.1)
      reads_took shelf (file name most IsRead IsFault next) told (after, answer, call, h) =
          file_took IsRead IsFault name most next shelf after answer told call (λ x. reads_took after (next x) (call.passes.told ∙ told)) h
      reads_took shelf (argument title bytes IsRead IsFault next) told h =
          bytes_took IsRead IsFault title next shelf bytes (λ x. reads_took shelf (next x) told) h

  -- Where it ends with a read fault alone, the faults of the shelf rose.
  module _ (IsOther : Reply → Type 0) (rejects : (rejection : Rejection) → IsOther (rejected rejection)) (faulty : (title : List ℕ) (fault : Fault) → IsOther (malformed title fault))
      (long : (name : List ℕ) → IsOther (too_long name)) (never : (reply : Reply) → IsOther reply → ends (stops reply) → ⊥) (not_lacks : ends lacks → ⊥)
      (not_took : (x : A) → ends (took x) → ⊥) where
    call_rose : {B : Type 0} (IsRead : List ℕ → B → Type 0) (IsFault : List ℕ → Fault → Type 0) (name : List ℕ) (most : ℕ) (next : B → Reading A) (shelf after : Shelved)
        (answer : Result Fetched ShelfFault) → Calls shelf after name most answer
        → ((x : B) → Reads (LeftAt last ends) after (next x) → Rose after.faults last.faults)
        → FollowsCall IsRead IsFault name (λ x. Reads (LeftAt last ends) after (next x)) (λ reply. LeftAt last ends after (stops reply)) (LeftAt last ends after lacks) answer
        → Rose shelf.faults last.faults
    call_rose IsRead IsFault name most next shelf after (Ok (Whole bytes)) call each (inl (x, is_read, h)) =
        grew_within 0 _ _ _ _ call.passes.faults (omega arith) (each x h)
    call_rose IsRead IsFault name most next shelf after (Ok (Whole bytes)) call each (inr (inl (fault, is, h))) = absurd (never (malformed name fault) (faulty name fault) h.1)
    call_rose IsRead IsFault name most next shelf after (Ok (Whole bytes)) call each (inr (inr h)) = absurd (not_lacks h.1)
    call_rose IsRead IsFault name most next shelf after (Ok TooLong) call each h = absurd (never (too_long name) (long name) h.1)
    call_rose IsRead IsFault name most next shelf after (Err Failed) call each h =
        subst (λ s. Rose shelf.faults s.faults) h.0 call.gives.0
    call_rose IsRead IsFault name most next shelf after (Err NoMemory) call each h = absurd (not_lacks h.1)

    pub reads_rose : (shelf : Shelved) (reading : Reading A) → Reads (LeftAt last ends) shelf reading → Rose shelf.faults last.faults
    reads_rose shelf (gives x) h = absurd (not_took x h.1)
    reads_rose shelf (tries None next) (inl h) = reads_rose shelf next h
    reads_rose shelf (tries None next) (inr h) = absurd (not_lacks h.1)
    reads_rose shelf (tries (Some rejection) next) (inl h) = absurd (never (rejected rejection) (rejects rejection) h.1)
    reads_rose shelf (tries (Some rejection) next) (inr h) = absurd (not_lacks h.1)
    reads_rose shelf (file name most IsRead IsFault next) (after, answer, call, h) =
        call_rose IsRead IsFault name most next shelf after answer call (λ x. reads_rose after (next x)) h
    reads_rose shelf (argument title bytes IsRead IsFault next) (inl (x, is_read, h)) = reads_rose shelf (next x) h
    reads_rose shelf (argument title bytes IsRead IsFault next) (inr (inl (fault, is, h))) = absurd (never (malformed title fault) (faulty title fault) h.1)
    reads_rose shelf (argument title bytes IsRead IsFault next) (inr (inr h)) = absurd (not_lacks h.1)

-- One end over files -------------------------------------------------------------------------------------------

-- Bytes are read as one thing at most, or have one fault at most, and never both.
pub record IsReading {A : Type 0} (IsRead : List ℕ → A → Type 0) (IsFault : List ℕ → Fault → Type 0) : Type 0 where
  pub one_value : (bytes : List ℕ) (x y : A) → IsRead bytes x → IsRead bytes y → x ≡ y
  pub one_fault : (bytes : List ℕ) (f g : Fault) → IsFault bytes f → IsFault bytes g → f ≡ g
  pub not_both : (bytes : List ℕ) (x : A) (f : Fault) → IsRead bytes x → IsFault bytes f → ⊥

-- So it is of all that is read.
abbrev pub AreReadings : {A : Type 0} → Reading A → Type 0
AreReadings (gives x) = Unit {0}
AreReadings (tries rejection next) = AreReadings next
AreReadings (file name most IsRead IsFault next) = IsReading IsRead IsFault × ((x : _) → AreReadings (next x))
AreReadings (argument title bytes IsRead IsFault next) = IsReading IsRead IsFault × ((x : _) → AreReadings (next x))

module _ {B : Type 0} (IsRead : List ℕ → B → Type 0) (IsFault : List ℕ → Fault → Type 0) (title : List ℕ) (reading : IsReading IsRead IsFault) where
  -- what is read decides
  pub bytes_read : (goes_on : B → Type 0) (replies : Reply → Type 0) (bytes : List ℕ) (x : B) → IsRead bytes x
      → FollowsBytes IsRead IsFault title goes_on replies ⊥ bytes → goes_on x
  bytes_read goes_on replies bytes x h (inl (x', h', k)) = subst goes_on (reading.one_value bytes x' x h' h) k
  bytes_read goes_on replies bytes x h (inr (inl (fault, is, k))) = absurd (reading.not_both bytes x fault h is)
  bytes_read goes_on replies bytes x h (inr (inr none)) = absurd none

  module _ (reply other : Reply) (goes_on goes_on' : B → Type 0) (each : (x : B) → goes_on x → goes_on' x → reply ≡ other) where
    pub bytes_one : (bytes : List ℕ) → FollowsBytes IsRead IsFault title goes_on (λ r. reply ≡ r) ⊥ bytes → FollowsBytes IsRead IsFault title goes_on' (λ r. other ≡ r) ⊥ bytes
        → reply ≡ other
    bytes_one bytes (inl (x, h, k)) (inl (x', h', k')) = each x k (subst goes_on' (reading.one_value bytes x' x h' h) k')
    bytes_one bytes (inl (x, h, k)) (inr (inl (fault, is, same))) = absurd (reading.not_both bytes x fault h is)
    bytes_one bytes (inr (inl (fault, is, same))) (inl (x, h, k)) = absurd (reading.not_both bytes x fault h is)
    bytes_one bytes (inr (inl (fault, is, same))) (inr (inl (fault', is', same'))) =
        same ∙ ap (malformed title) (reading.one_fault bytes fault fault' is is') ∙ sym same'
    bytes_one bytes (inr (inr none)) k = absurd none
    bytes_one bytes (inl (x, h, k)) (inr (inr none)) = absurd none
    bytes_one bytes (inr (inl (fault, is, same))) (inr (inr none)) = absurd none

    pub call_one : (answer : Result Fetched ShelfFault) → FollowsCall IsRead IsFault title goes_on (λ r. reply ≡ r) ⊥ answer
        → FollowsCall IsRead IsFault title goes_on' (λ r. other ≡ r) ⊥ answer → reply ≡ other
    call_one (Ok (Whole bytes)) h k = bytes_one bytes h k
    call_one (Ok TooLong) h k = h ∙ sym k
    call_one (Err Failed) h k = h ∙ sym k
    call_one (Err NoMemory) h k = absurd h

-- Reading values of JSON.
use Rattle.std.proofs.Common.{◌≡◌, ℕ, zero, suc, ◌<◌, ◌≤◌, List, [], ◌∷◌, length, true, Some, None, ap, ◌∙◌, arith, inl, inr}
use Rattle.std.specs.Prelude.{Err, nat_lt, if◌then◌else◌}
use Rattle.std.specs.List.{list_all}
use Rattle.std.specs.Str.{IsUtf8, is_utf8, IsAscii}
use Rattle.std.proofs.lemmas.Bool.{and_parts, cases_Bool, cond-true, cond-false, lt-ltb, le-ltb}
use Rattle.std.proofs.lemmas.Bool.Decides.{nat_tests}
use Rattle.std.proofs.lemmas.Str.{IsUtf8-from_ascii, IsUtf8-from_is_utf8, is_utf8-from_IsUtf8}
use Rattle.cov_expr.specs.declared.limits.TheConstants.{MOST_ENTRIES}
use Rattle.cov_expr.specs.Bytes.{is_lower, is_word}
use Rattle.cov_expr.specs.Names.{IsName, is_word_text}
use Rattle.serde_json.specs.Data.{Data}
use Rattle.serde_json.specs.Read.{read}
use Rattle.serde_json.specs.View.{items_view}
use Rattle.serde_json.specs.declared.value.Value.{Value}
use Rattle.serde_json.proofs.Views.{items_len-items_view}
use Rattle.schedule_replay.specs.Json.{value_of}
use Rattle.schedule_replay.specs.Schedules.{entries_from, schedule_at}
use Rattle.schedule_replay.specs.declared.fault.ScheduleFault.TheVariants as faults

-- Names --------------------------------------------------------------------------------------------------------

lower_ascii : (b : ℕ) → is_lower b ≡ true → b < 128
lower_ascii b h = grind (arith, nat_tests)

word_ascii : (b : ℕ) → is_word b ≡ true → b < 128
word_ascii b h = grind (arith, nat_tests)

words_ascii : (bs : List ℕ) → list_all is_word bs ≡ true → IsAscii bs
words_ascii [] h i = omega arith
words_ascii (b ∷ bs) h zero = word_ascii b (and_parts (is_word b) (list_all is_word bs) h).0
words_ascii (b ∷ bs) h (suc i) = words_ascii bs (and_parts (is_word b) (list_all is_word bs) h).1 i

text_ascii : (bs : List ℕ) → is_word_text bs ≡ true → IsAscii bs
text_ascii [] h i = omega arith
text_ascii (b ∷ bs) h zero = lower_ascii b (and_parts (is_lower b) (list_all is_word bs) h).0
text_ascii (b ∷ bs) h (suc i) = words_ascii bs (and_parts (is_lower b) (list_all is_word bs) h).1 i

pub name_utf8 : (bs : List ℕ) → IsName bs → IsUtf8 bs
name_utf8 bs h = IsUtf8-from_ascii bs (text_ascii bs h.word)

-- Files --------------------------------------------------------------------------------------------------------

pub read_is : (bytes : List ℕ) (d : Data) → IsUtf8 bytes → read bytes ≡ Some d → value_of bytes ≡ Some d
read_is bytes d u e = cond-true (is_utf8 bytes) (read bytes) None (is_utf8-from_IsUtf8 bytes u) ∙ e

pub unread_is : (bytes : List ℕ) → (IsUtf8 bytes → read bytes ≡ None) → value_of bytes ≡ None
unread_is bytes h =
    elim (cases_Bool (is_utf8 bytes)) [
      | inl text ↦ cond-true (is_utf8 bytes) (read bytes) None text ∙ h (IsUtf8-from_is_utf8 bytes text)
      | inr other ↦ cond-false (is_utf8 bytes) (read bytes) None other
    ]

-- Schedules ----------------------------------------------------------------------------------------------------

module _ (threads : ℕ) (vs : List Value) where
  as_length : schedule_at threads (Some (items_view vs)) ≡ (if nat_lt MOST_ENTRIES (length vs) then Err faults.TooMany else entries_from threads 0 (items_view vs))
  as_length = ap (λ n. if nat_lt MOST_ENTRIES n then Err faults.TooMany else entries_from threads 0 (items_view vs)) (items_len-items_view vs)

  pub too_many : MOST_ENTRIES < length vs → schedule_at threads (Some (items_view vs)) ≡ Err faults.TooMany
  too_many l = as_length ∙ cond-true _ (Err faults.TooMany) (entries_from threads 0 (items_view vs)) (lt-ltb MOST_ENTRIES (length vs) l)

  pub not_too_many : length vs ≤ MOST_ENTRIES → schedule_at threads (Some (items_view vs)) ≡ entries_from threads 0 (items_view vs)
  not_too_many l = as_length ∙ cond-false _ (Err faults.TooMany) (entries_from threads 0 (items_view vs)) (le-ltb MOST_ENTRIES (length vs) l)

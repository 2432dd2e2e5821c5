-- Worked rows, by computation.
use Rattle.std.proofs.Common.{◌≡◌, ◌==◌, [], ◌∷◌, Some, None, refl}
use Rattle.regalloc.specs.Plan.{Plan, start, held, keep, spoil, stored, restrict, meet, frees, part, room}

-- r0 and r2 are kept for the variable 5, r1 for 7
abbrev some_kept : Plan
some_kept = Some 5 ∷ Some 7 ∷ Some 5 ∷ None ∷ None ∷ None ∷ None ∷ None ∷ []

-- each register is kept
abbrev all_kept : Plan
all_kept = Some 0 ∷ Some 1 ∷ Some 2 ∷ Some 3 ∷ Some 4 ∷ Some 5 ∷ Some 6 ∷ Some 7 ∷ []

lowest_is_held : held some_kept 5 ≡ Some 0
lowest_is_held = refl

none_is_held : held some_kept 0 ≡ None
none_is_held = refl

a_load_is_kept : keep (keep (keep start 5 2) 7 1) 5 0 ≡ some_kept
a_load_is_kept = refl

another_word_spoils : spoil some_kept 1 ≡ Some 5 ∷ None ∷ Some 5 ∷ None ∷ None ∷ None ∷ None ∷ None ∷ []
another_word_spoils = refl

a_store_ends_all : stored some_kept 5 ≡ None ∷ Some 7 ∷ None ∷ None ∷ None ∷ None ∷ None ∷ None ∷ []
a_store_ends_all = refl

only_7_is_stable : restrict (λ x. x == 7) some_kept ≡ None ∷ Some 7 ∷ None ∷ None ∷ None ∷ None ∷ None ∷ None ∷ []
only_7_is_stable = refl

-- what both keep in the same register
both_keep : meet some_kept (Some 5 ∷ Some 5 ∷ None ∷ Some 7 ∷ None ∷ None ∷ None ∷ None ∷ []) ≡ Some 5 ∷ None ∷ None ∷ None ∷ None ∷ None ∷ None ∷ None ∷ []
both_keep = refl

parts_of_the_start : part start 6 ≡ Some 6
unfolding frees
parts_of_the_start = refl

-- r7 is for no part
no_eighth_part : part start 7 ≡ None
unfolding frees
no_eighth_part = refl

parts_pass_what_is_kept : part some_kept 0 ≡ Some 3
unfolding frees
parts_pass_what_is_kept = refl

no_part : part all_kept 0 ≡ None
unfolding frees
no_part = refl

room_for_two : room all_kept 2 ≡ Some 0 ∷ Some 1 ∷ Some 2 ∷ Some 3 ∷ Some 4 ∷ None ∷ None ∷ Some 7 ∷ []
unfolding frees room
room_for_two = refl

there_is_room : room some_kept 4 ≡ some_kept
unfolding frees room
there_is_room = refl

-- those that are kept for nothing are passed
room_for_five : room some_kept 5 ≡ Some 5 ∷ Some 7 ∷ None ∷ None ∷ None ∷ None ∷ None ∷ None ∷ []
unfolding frees room
room_for_five = refl

room_for_seven : room all_kept 7 ≡ None ∷ None ∷ None ∷ None ∷ None ∷ None ∷ None ∷ Some 7 ∷ []
unfolding frees room
room_for_seven = refl

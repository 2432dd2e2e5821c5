-- Worked words of trials, by computation.
use Rattle.std.proofs.Common.{◌≡◌, refl}
use Rattle.watch.specs.TrialWords.{drawn, raw_word}

first_word : raw_word 1 1 0 ≡ 1
first_word = refl

next_word : raw_word 1 1 1 ≡ 1
next_word = refl

other_side : raw_word 1 2 1 ≡ 2
other_side = refl

last_word : raw_word 1000 2 255 ≡ 1
last_word = refl

first_draw : drawn 0 ≡ 18256
first_draw = refl

-- of the largest word
last_draw : drawn 4294967295 ≡ 12311
last_draw = refl

-- Draws, and some draws that were worked out by hand.
use Rattle.std.specs.Prelude.{◌≡◌, ℕ, zero, suc, ◌+◌, ◌*◌, ◌%◌}

-- The number before the first draw of a seed.
abbrev pub draw_start : ℕ → ℕ
draw_start seed = seed % 2147483646 + 1

-- The draw after a number.
abbrev pub next_draw : ℕ → ℕ
next_draw x = (48271 * x) % 2147483647

-- The draw of a seed at a place, counted from 0.
abbrev pub draw : ℕ → ℕ → ℕ
draw seed zero = next_draw (draw_start seed)
draw seed (suc place) = next_draw (draw seed place)

pub record DrawsAreWorked : Type 0 where
  pub first : draw 0 0 ≡ 48271
  pub second : draw 0 1 ≡ 182605794
  pub third : draw 0 2 ≡ 1291394886
  pub fourth : draw 0 3 ≡ 1914720637
  pub fifth : draw 0 4 ≡ 2078669041
  pub sixth : draw 0 5 ≡ 407355683
  pub last_start : draw_start 2147483645 ≡ 2147483646
  pub first_start_again : draw_start 2147483646 ≡ 1
  pub greatest_start : draw_start 18446744073709551615 ≡ 16
  pub none_after_zero : next_draw 0 ≡ 0
  pub after_the_greatest : next_draw 18446744073709551615 ≡ 144813

-- Greatest numbers.
use Rattle.std.proofs.Common.{◌≡◌, ◌≤◌, ◌<◌, ◌+◌, ◌-◌, rules, arith, ℕ, true}
use Rattle.std.specs.Prelude.{max, nat_le, ◌&&◌}

pub at_most_max : (a b m : ℕ) → nat_le (max a b) m ≡ (nat_le a m && nat_le b m)
at_most_max a b m = grind (arith, rules)

pub at_most_three : (a b c m : ℕ) → nat_le (max a (max b c)) m ≡ (nat_le a m && (nat_le b m && nat_le c m))
at_most_three a b c m = grind (arith, rules)

pub at_most_zero : (m : ℕ) → nat_le 0 m ≡ true
at_most_zero m = grind (arith, rules)

at_most_is : (b m : ℕ) → nat_le b m ≡ true → b ≤ m
at_most_is b m h = grind (arith, rules)

pub few : (n b : ℕ) → n ≤ 1000000 → nat_le b 1000000 ≡ true → n + b < 4294967288
few n b h k = omega (arith, h, at_most_is b 1000000 k)

pub at_most_sum : (a b m : ℕ) → nat_le (a + b) m ≡ (nat_le a m && nat_le b (m - a))
at_most_sum a b m = grind (arith, rules)

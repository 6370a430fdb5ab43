-- The size of a product.
use Rattle.std.proofs.Common.{◌≡◌, ℕ, zero, suc, ◌*◌, ◌^◌, ◌≤◌, ℤ, pos, negsuc, ◌*ℤ◌, neg_ℤ, nat_abs, refl, mul-le-mul, arith, w64, SFits}
use lib.Signed.{mag}

abs_neg : (n : ℕ) → nat_abs (neg_ℤ (pos n)) ≡ n
abs_neg zero = refl
abs_neg (suc n) = refl

abs_mul : (a b : ℤ) → nat_abs (a *ℤ b) ≡ nat_abs a * nat_abs b
abs_mul (pos a) (pos b) = refl
abs_mul (pos a) (negsuc b) = abs_neg (a * suc b)
abs_mul (negsuc a) (pos b) = abs_neg (suc a * b)
abs_mul (negsuc a) (negsuc b) = refl

pub product_le : (a b : ℤ) → nat_abs a ≤ 2 ^ 16 → nat_abs b ≤ 2 ^ 16 → nat_abs (a *ℤ b) ≤ 2 ^ 32
product_le a b x y = omega (arith, abs_mul a b, mul-le-mul x y)

mag_le : (z : ℤ) → mag z ≤ nat_abs z
mag_le (pos n) = omega arith
mag_le (negsuc n) = omega arith

pub product_fits : (a b : ℤ) → nat_abs a ≤ 2 ^ 16 → nat_abs b ≤ 2 ^ 16 → SFits w64 (a *ℤ b)
product_fits a b x y = record { sfits = omega (arith, mag_le (a *ℤ b), product_le a b x y) }

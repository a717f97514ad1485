-- The product of two bytes is small.
use Rattle.std.proofs.Common.{ℕ, ◌<◌, ◌*◌}
use Rattle.std.proofs.lemmas.Nat.{mul-lt}

pub product_fits : (a b : ℕ) → a < 256 → b < 256 → a * b < 65536
product_fits a b p q = mul-lt a b 256 256 p q

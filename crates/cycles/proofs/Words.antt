-- The product of two numbers of half a word fits the word.
use Prim.Native.Nat.{ℕ, ◌-◌, ◌*◌, ◌≤◌, ◌^◌}
use native.Mathlib.Nat.{mul-le-mul}
use native.Mathlib.Omega.{arith}
use mir.Syntax.{w32, w64}
use mir.Val.{Fits}

pub product_fits : {a b : ℕ} → Fits w32 a → b ≤ 2 ^ 32 → Fits w64 (a * b)
product_fits {a} {b} h g =
    let most = mul-le-mul {n₁ = a} {m₁ = b} {n₂ = 2 ^ 32 - 1} {m₂ = 2 ^ 32} (omega arith) g in
    omega (arith, most)

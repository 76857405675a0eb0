-- A host that reads eight bytes of numbers finds the number that stands there.
use mathlib.Core.Path.{◌≡◌, refl, sym, ap, subst, ◌∙◌}
use mathlib.Core.List.{List, [], ◌∷◌, ◌++◌}
use Prim.Native.Nat.{ℕ, zero, suc, ◌*◌, ◌≤◌, ◌<◌}
use native.Mathlib.Nat.{not-suc-le-zero, le_of_suc-le-suc}
use native.Mathlib.Omega.{arith}
use lib.IntN.{ℤ, pos}
use lib.ListN.{length, get_or, drop}
use mir.Syntax.{w64}
use mir.Val.{SFits, to_z, of_z}
use mir.Facts.{to_z-of_z, Fits-of_z}
use Rattle.buffer.specs.declared.Cursor.{Cursor}
use Rattle.buffer.proofs.Little.{little_read}
use Rattle.buffer.proofs.Stores.{from_start}
use Rattle.numbers.specs.NumberBytes.{number_bytes, numbers_bytes, AllFit, number_of, ReadBack, Written}

-- number k's bytes start at byte 8 * k, whatever follows
bytes_from : (zs : List ℤ) (rest : List ℕ) (k : ℕ) → k < length zs → drop (8 * k) (numbers_bytes zs ++ rest) ≡ number_bytes (get_or zs k (pos 0)) ++ (numbers_bytes (drop (suc k) zs) ++ rest)
unfolding numbers_bytes
bytes_from [] rest k h = absurd (not-suc-le-zero h)
bytes_from (z ∷ zs) rest zero h = refl
bytes_from (z ∷ zs) rest (suc k) h =
    let e : 8 * suc k ≡ suc (suc (suc (suc (suc (suc (suc (suc (8 * k)))))))) = omega arith in
    ap (λ (n : ℕ). drop n (numbers_bytes (z ∷ zs) ++ rest)) e ∙ bytes_from zs rest k (le_of_suc-le-suc h)

fit_at : (zs : List ℤ) → AllFit zs → (k : ℕ) → k < length zs → SFits w64 (get_or zs k (pos 0))
fit_at [] f k h = absurd (not-suc-le-zero h)
fit_at (z ∷ zs) f zero h = f.0
fit_at (z ∷ zs) f (suc k) h = fit_at zs f.1 k (le_of_suc-le-suc h)

-- the host reads what was written, of numbers that 64 bits hold
pub number_read : (zs : List ℤ) (rest : List ℕ) → AllFit zs → ReadBack (numbers_bytes zs ++ rest) zs
number_read zs rest fit k h =
    let f = fit_at zs fit k h in
    let z = get_or zs k (pos 0) in
    ap number_of (bytes_from zs rest k h) ∙ ap (to_z w64) (little_read 8 (of_z w64 z) (numbers_bytes (drop (suc k) zs) ++ rest) (Fits-of_z f).fits) ∙ to_z-of_z f

-- numbers put at a buffer's front, n bytes of them: their bytes, the rest as it was; and a host reads them
pub in_front : {w v : Cursor} {zs : List ℤ} {n : ℕ} {o : List ℕ} → Written w zs v → w.at ≡ 0 → 8 * length zs ≡ n → n ≤ length w.out.now → o ≡ v.out.now → (o ≡ numbers_bytes zs ++ drop n w.out.now) × ReadBack o zs
in_front {w} {v} {zs} {n} {o} h start size room whole =
    let long : length (numbers_bytes zs) ≡ n = omega (arith, h.ends, h.bytes.stored.ends) in
    let is = from_start h.bytes start (omega arith) whole ∙ ap (λ (k : ℕ). numbers_bytes zs ++ drop k w.out.now) long in
    (is, subst (λ (l : List ℕ). ReadBack l zs) (sym is) (number_read zs _ h.fit))

-- Numbers put one after the other are their list put at once.
use mathlib.Core.Path.{◌≡◌, refl, sym, ap, subst, ◌∙◌}
use mathlib.Core.List.{List, [], ◌∷◌, ◌++◌}
use Prim.Native.Nat.{ℕ, zero, suc, ◌+◌, ◌*◌}
use native.Mathlib.Omega.{arith}
use lib.IntN.{ℤ, pos}
use lib.ListN.{replicate, length-append, length-replicate, replicate-append-replicate}
use mir.Syntax.{w64}
use mir.Val.{SFits, to_z, of_z}
use mir.Facts.{to_z-of_z}
use Rattle.buffer.specs.Stored.{little_endian, Puts}
use Rattle.buffer.specs.declared.Cursor.{Cursor}
use Rattle.buffer.proofs.Stores as stored
use Rattle.numbers.specs.NumberBytes.{number_bytes, numbers_bytes, AllFit, Written}

bytes_append : (xs ys : List ℤ) → numbers_bytes (xs ++ ys) ≡ numbers_bytes xs ++ numbers_bytes ys
unfolding numbers_bytes
bytes_append [] ys = refl
bytes_append (x ∷ xs) ys = ap (λ (r : List ℕ). number_bytes x ++ r) (bytes_append xs ys)

fit_append : (xs ys : List ℤ) → AllFit xs → AllFit ys → AllFit (xs ++ ys)
fit_append [] ys f g = g
fit_append (x ∷ xs) ys f g = (f.0, fit_append xs ys f.1 g)

pub nothing : {w : Cursor} → Written w [] w
unfolding numbers_bytes
nothing = record { ends = omega arith; bytes = stored.nothing; fit = tt }

-- one number, by its bits
pub one : {w v : Cursor} {x : ℕ} (z : ℤ) → SFits w64 z → x ≡ of_z w64 z → Puts w (little_endian 8 x) v → Written w (z ∷ []) v
unfolding numbers_bytes
one z f b h = record { ends = h.stored.ends; bytes = stored.retold (ap (little_endian 8) b) h; fit = (f, tt) }

-- zeros, by their bytes
zero_bytes : (n : ℕ) → replicate (8 * n) 0 ≡ numbers_bytes (replicate n (pos 0))
unfolding numbers_bytes
zero_bytes zero = refl
zero_bytes (suc n) =
    let e : 8 * suc n ≡ 8 + 8 * n = omega arith in
    ap (λ (k : ℕ). replicate k 0) e ∙ sym (replicate-append-replicate 8 (8 * n) 0) ∙ ap (λ (l : List ℕ). replicate 8 0 ++ l) (zero_bytes n)

zeros_fit : (n : ℕ) → AllFit (replicate n (pos 0))
zeros_fit zero = tt
zeros_fit (suc n) = (record { sfits = omega arith }, zeros_fit n)

pub zeros : {w v : Cursor} (n : ℕ) → Puts w (replicate (8 * n) 0) v → Written w (replicate n (pos 0)) v
zeros n h =
    let e = length-replicate {A = ℕ} (8 * n) 0 in
    let f = length-replicate n (pos 0) in
    record { ends = omega (arith, h.stored.ends); bytes = stored.retold (zero_bytes n) h; fit = zeros_fit n }

-- more numbers from where the first end
pub and_then : {w v u : Cursor} {xs ys : List ℤ} → Written w xs v → Written v ys u → Written w (xs ++ ys) u
and_then {xs = xs} {ys = ys} first next =
    record {
      ends = omega (arith, first.ends, next.ends, length-append xs ys);
      bytes = stored.retold (sym (bytes_append xs ys)) (stored.and_then first.bytes next.bytes);
      fit = fit_append xs ys first.fit next.fit;
    }

-- the same numbers, said otherwise: any; a natural one; one that was read back from its bits
pub retold : {w v : Cursor} {xs ys : List ℤ} → xs ≡ ys → Written w xs v → Written w ys v
retold {w} {v} e h = subst (λ (zs : List ℤ). Written w zs v) e h

pub natural : {w v : Cursor} {m n : ℕ} → m ≡ n → Written w (pos m ∷ []) v → Written w (pos n ∷ []) v
natural e h = retold (ap (λ (k : ℕ). pos k ∷ []) e) h

pub signed : {w v : Cursor} {z : ℤ} → SFits w64 z → Written w (to_z w64 (of_z w64 z) ∷ []) v → Written w (z ∷ []) v
signed f h = retold (ap (λ (y : ℤ). y ∷ []) (to_z-of_z f)) h

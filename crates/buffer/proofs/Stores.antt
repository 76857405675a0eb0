-- Bytes put one after the other are their string put at once.
use mathlib.Core.Path.{◌≡◌, refl, ap, subst, ◌∙◌}
use mathlib.Core.List.{List, [], ◌∷◌, ◌++◌}
use Prim.Native.Nat.{ℕ, suc, ◌+◌, ◌≤◌}
use native.Mathlib.Nat.{add-zero}
use native.Mathlib.Omega.{arith}
use lib.ListN.{length, drop, length-append}
use lib.Seq.{sets, sets-eq, length-sets}
use Rattle.buffer.specs.Stored.{Stored, Puts}
use Rattle.buffer.specs.declared.Cursor.{Cursor}

-- a run of stores, and one from where it ends
sets_more : (bs cs s : List ℕ) (at p : ℕ) → p ≡ at + length bs → sets (sets s at bs) p cs ≡ sets s at (bs ++ cs)
sets_more [] cs s at p e = ap (λ (k : ℕ). sets s k cs) (e ∙ add-zero at)
sets_more (b ∷ bs) cs s at p e = sets_more bs cs _ (suc at) p (omega arith)

stored_then : {s w v : List ℕ} {at p r : ℕ} {bs cs : List ℕ} → Stored s at bs w p → Stored w p cs v r → Stored s at (bs ++ cs) v r
stored_then {s} {w} {v} {at} {p} {r} {bs} {cs} first next =
    record {
      ends = omega (arith, first.ends, next.ends, length-append bs cs);
      is = next.is ∙ ap (λ (l : List ℕ). sets l p cs) first.is ∙ sets_more bs cs s at p first.ends;
    }

-- bytes stored in a cursor's buffer
pub stores : {w v : Cursor} {bs : List ℕ} → v.out.ghost_name ≡ w.out.ghost_name → Stored w.out.now w.at bs v.out.now v.at → Puts w bs v
stores {w} {v} {bs} e h = record { same = e; long = ap length h.is ∙ length-sets w.out.now w.at bs; stored = h }

pub nothing : {w : Cursor} → Puts w [] w
nothing = stores refl (record { ends = omega arith; is = refl })

-- more bytes from where the first end
pub and_then : {w v u : Cursor} {bs cs : List ℕ} → Puts w bs v → Puts v cs u → Puts w (bs ++ cs) u
and_then first next = stores (next.same ∙ first.same) (stored_then first.stored next.stored)

-- the same bytes, said otherwise
pub retold : {w v : Cursor} {bs cs : List ℕ} → bs ≡ cs → Puts w bs v → Puts w cs v
retold {w} {v} e h = subst (λ (l : List ℕ). Puts w l v) e h

-- from a buffer's start: the bytes, and the rest as it was
pub from_start : {w v : Cursor} {bs o : List ℕ} → Puts w bs v → w.at ≡ 0 → length bs ≤ length w.out.now → o ≡ v.out.now → o ≡ bs ++ drop (length bs) w.out.now
from_start {w} {v} {bs} h start room whole =
    let from_zero : 0 + length bs ≡ length bs = omega arith in
    whole ∙ h.stored.is ∙ ap (λ (k : ℕ). sets w.out.now k bs) start ∙ sets-eq bs w.out.now 0 (omega arith) ∙ ap (λ (k : ℕ). bs ++ drop k w.out.now) from_zero

use mathlib.Core.Path.{◌≡◌, ap, subst}
use Prim.Native.Nat.{ℕ, ◌≤◌}
use native.Mathlib.Omega.{arith}
use lib.Dec.{lit<}
use lib.IntN.{pos}
use mir.Syntax.{w64}
use Rattle.exact.proofs.Held.{Held, got, nat, retold, told, times, times! }
use Rattle.model.specs.Decode.{live_of}
use Rattle.rows.specs.Governed.{live_value}
use Rattle.rows.proofs.tables.Tables.loaded.Goals as goal

-- the factor that has been read
factor : {n k : ℕ} → n ≡ k → k ≤ 3000 → Held w64 n 3000 (pos k)
factor {n} e h = subst (λ (k : ℕ). Held w64 n 3000 (pos k)) e (nat w64 3000 (rw e h) (omega arith))

pub overflow_mul-result : goal.overflow_mul-result
overflow_mul-result c =
    let p = c.requires in
    times! (factor c.item_word-factor.ensures.0 (c.args.self.now.fit.rows c.args.r p.0 p.1).factor) (got w64 c.traffic.type_inv c.traffic.ensures) (lit< tt)

pub returns : goal.returns
returns c =
    let p = c.requires in
    let traffic = retold (got w64 c.traffic.type_inv c.traffic.ensures) (ap (λ (k : ℕ). live_value c.args.live (live_of k)) c.item_word-kind.ensures.0) in
    told (times (factor c.item_word-factor.ensures.0 (c.args.self.now.fit.rows c.args.r p.0 p.1).factor) traffic (lit< tt))

use mathlib.Core.Path.{◌≡◌}
use Prim.Native.Nat.{◌+◌}
use lib.ListN.{length}
use Rattle.model.specs.StandardForm.{chain_bytes}
use Rattle.tables.specs.ChainsRead.{terms_in}
use Rattle.tables.proofs.Later.{Left, later}
use Rattle.tables.proofs.put_chain.Given as goal

abbrev pub invariant-loop-j : goal.invariant-loop-j
invariant-loop-j l =
    let n = length l.factors in record { count : l.done + length (later l.factors n l.j) ≡ l.k; left : Left l.initial.w (chain_bytes l.c (terms_in l.factors n)) l.w (chain_bytes (l.c + l.done) (later l.factors n l.j)) }

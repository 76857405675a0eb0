use mathlib.Core.Path.{sym, ◌∙◌, ap}
use mathlib.Core.List.{List}
use Prim.Native.Nat.{ℕ}
use lib.ListN.{take}
use lib.Seq.{take_at}
use Rattle.hnho.proofs.reply.Goals as goal

pub returns : goal.returns
returns c =
    let s = c.solve-answer in
    let t = c.text.ensures in
    record {
      upper_bound = t.upper_bound;
      printed = record {
        answer = s.result;
        patch = _;
        answered = s.ensures;
        is = ap (λ (l : List ℕ). take c.text.result l) t.out_after ∙ take_at _ _ _ (sym t.value);
      };
    }

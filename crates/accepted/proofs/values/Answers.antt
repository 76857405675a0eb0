use mathlib.Core.Path.{sym, ◌∙◌, subst}
use Prim.Native.Nat.{ℕ, ◌≤◌}
use Rattle.model.specs.Decode.{decode}
use Rattle.model.specs.Line.{HN, HO}
use Rattle.accepted.proofs.Fits.{line_near, line_reach, line_tenth, dynamic_limits, dynamic, one_lane, profile_is}
use Rattle.accepted.proofs.Loads.{loads_fit, factor_is}
use Rattle.accepted.proofs.values.Goals as goal

pub returns-clause-placed : goal.returns-clause-placed
returns-clause-placed c =
    let ready = c.requires.ready in
    c.both.ensures.placed (decode c.args.job.now) (record {
      spanned = c.requires.spanned;
      profile = profile_is ready;
      dynamic = factor_is ready c.args.q c.factor-dynamic.ensures;
      hn = c.requires.effects.0;
      ho = c.requires.effects.1;
    })

pub factor-dynamic-requires : goal.factor-dynamic-requires
factor-dynamic-requires c = dynamic_limits c.requires.ready _

pub invariant_of-loads : goal.invariant_of-loads
invariant_of-loads c =
    let ready = c.requires.ready in
    let job = decode c.args.job.now in
    let over = c.requires.spanned in
    let range = subst (λ (d : ℕ). (1000 ≤ d) × (d ≤ 1300)) (sym c.factor-dynamic.ensures) (dynamic ready _) in
    record {
      fits = record {
        one = λ r. over.lanes ∙ one_lane ready r;
        least = range.0;
        most = range.1;
        light = loads_fit job HN c.requires.effects.0 (line_near ready) (line_reach ready) over (line_tenth ready);
        heavy = loads_fit job HO c.requires.effects.1 (line_near ready) (line_reach ready) over (line_tenth ready);
      };
    }

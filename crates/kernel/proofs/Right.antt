-- What a reported value is right by: demand 3's bounds, and what its placement or its row's omissions give.
use mathlib.Core.Path.{◌≡◌, refl, sym, ◌∙◌, subst}
use mathlib.Core.List.{List, ◌++◌}
use Prim.Native.Nat.{ℕ}
use Rattle.exact.specs.Questions.{NoBetter, for_question}
use Rattle.exact.specs.declared.Question.{Question}
use Rattle.exact.specs.declared.Question.TheVariants.{Greatest, Least}
use Rattle.model.specs.Job.{Job, Limit, Live, no_traffic, normal, overload}
use Rattle.model.specs.Line.{patch_bytes}
use Rattle.model.specs.Traffic.{traffic_value}
use Rattle.model.specs.Arrangements.{arranged}
use Rattle.model.specs.Answered.{position_of, traffic_in, state_in, reported_effect, PositionRight, TrafficRight, AccountRight}
use Rattle.model.specs.declared.Sense.{Sense}
use Rattle.model.specs.declared.Extreme.{Extreme}
use Rattle.model.specs.declared.Account.{Account}
use Rattle.model.proofs.Lanes.{Spaced}
use Rattle.model.proofs.LineLimits.{OneSigned}
use Rattle.model.proofs.Unbeaten.{unbeaten}
use Rattle.model.proofs.Signs.{no_traffic_lem}
use Rattle.model.proofs.Attained.{reported_lawful, reported_gives}
use Rattle.rows.specs.Governed.{traffic_of}
use Rattle.rows.proofs.LimitStates.{Given, state_right}
use Rattle.accepted.specs.AccountParts.{reported_live, PartsRight}
use Rattle.lanes.specs.Loadings.{TrafficPlaced}

module _ (job : Job) (signed : OneSigned job.line) (spaced : Spaced job) (patch rest : List ℕ) (a : Account)
    (bytes : patch ≡ patch_bytes job.line ++ rest) (positions : (sense : Sense) → PositionRight job.line sense (position_of a sense)) where
  -- such a placement gives its traffic value
  pub placed_gives : (q : Question) (live : Live) (x : Extreme) → TrafficPlaced q job live x → reported_effect q job patch a live x.placement ≡ traffic_value q job live
  placed_gives q live x p = reported_gives q job patch rest a bytes positions x.placement p.entries live spaced.0 p.sum

  -- so the reported traffic value is right
  pub traffic_right : (q : Question) (live : Live) (x : Extreme) → TrafficPlaced q job live x → TrafficRight job patch a q live x
  traffic_right q live x p = record {
    value = p.value;
    unbeaten = λ k w law. subst (NoBetter q (arranged q job live k w)) (sym p.value) (unbeaten q job live k w signed spaced law);
    lawful = reported_lawful q job patch rest a bytes positions x.placement p.entries live p.kinds p.factors;
    gives = placed_gives q live x p ∙ sym p.value;
    set = p.set;
    on_deck = p.on_deck;
    idle = p.idle;
  }

-- make a right account, with any buffer that starts with the patch bytes
pub account_right : (job : Job) → OneSigned job.line → Spaced job → (rest : List ℕ) (a : Account) → PartsRight job a → AccountRight job (patch_bytes job.line ++ rest) a
account_right job signed spaced rest a p = record {
  traffic = λ q live h. traffic_right job signed spaced patch rest a refl p.positions q live (for_question q (traffic_in a live)) (p.traffic q live h);
  positions = p.positions;
  states = λ limit. state_right job patch a limit signed spaced (traffic_of (reported_live a)) (state_in a limit) (given limit) (p.states limit);
  first_count = p.first_count;
  second_count = p.second_count;
  walked = p.walked;
}
  where
    patch : List ℕ
    patch = patch_bytes job.line ++ rest

    -- a question's reported values are the job's, for each live kind
    values : (q : Question) (live : Live) → traffic_of (reported_live a) q live ≡ traffic_value q job live
    values q no_traffic = sym (no_traffic_lem q job)
    values Greatest normal = (p.traffic Greatest normal tt).value
    values Least normal = (p.traffic Least normal tt).value
    values Greatest overload = (p.traffic Greatest overload tt).value
    values Least overload = (p.traffic Least overload tt).value

    given : (limit : Limit) (q : Question) → Given job patch a limit signed spaced q (traffic_of (reported_live a) q)
    given limit q = record {
      values = values q;
      gives = λ live h. placed_gives job signed spaced patch rest a refl p.positions q live (for_question q (traffic_in a live)) (p.traffic q live h);
    }

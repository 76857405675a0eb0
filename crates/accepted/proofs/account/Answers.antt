use mathlib.Core.Path.{◌≡◌, subst}
use mathlib.Core.List.{List}
use Prim.Native.Nat.{ℕ}
use lib.IntN.{ℤ}
use mir.Syntax.{w64}
use mir.Val.{to_z, of_z}
use Rattle.exact.specs.Questions.{for_question}
use Rattle.exact.specs.declared.ByQuestion.{ByQuestion}
use Rattle.exact.specs.declared.Question.{Question}
use Rattle.exact.specs.declared.Question.TheVariants.{Greatest, Least}
use Rattle.exact.proofs.Extremes.{by_question}
use Rattle.model.specs.Answers.{State, Traffic}
use Rattle.model.specs.Job.{Job, Limit, service, ultimate, Live, no_traffic, normal, overload, HasTraffic}
use Rattle.model.specs.Decode.{decode}
use Rattle.model.specs.Lanes.{lanes_of, second_lanes}
use Rattle.model.specs.RecordsWalked.{records_walked}
use Rattle.model.specs.Answered.{position_of, traffic_in, state_in, PositionRight}
use Rattle.model.specs.declared.Account.{Account}
use Rattle.model.specs.declared.ByLive.{ByLive}
use Rattle.model.specs.declared.Sense.{Sense}
use Rattle.model.specs.declared.Sense.TheVariants.{Raising, Lowering}
use Rattle.rows.specs.Governed.{traffic_of, StateFound}
use Rattle.rows.proofs.Choosing.{by_limit}
use Rattle.lanes.specs.Loadings.{TrafficPlaced}
use Rattle.accepted.specs.AccountParts.{TrafficFound, StateOf, PartsRight}
use Rattle.accepted.proofs.Pairs.{near_back, pair_of, live_of, live_back}
use Rattle.accepted.proofs.account.Goals as goal

-- a value as a struct hands it on
abbrev on : ℤ → ℤ
on x = to_z w64 (of_z w64 x)

-- a state found with the values as they were handed on is found with the reported ones
handed : (b : List ℕ) (x : ByLive Traffic) → TrafficFound (decode b) normal x.normal → TrafficFound (decode b) overload x.overload → (limit : Limit) (s : State) →
    StateFound (decode b).effect (decode b).row (traffic_of (live_of (pair_of (on x.normal.greatest.value) (on x.overload.greatest.value)) (pair_of (on x.normal.least.value) (on x.overload.least.value)))) limit (decode b).rows s →
    StateFound (decode b).effect (decode b).row (traffic_of (live_of (pair_of x.normal.greatest.value x.overload.greatest.value) (pair_of x.normal.least.value x.overload.least.value))) limit (decode b).rows s
handed b x n o limit s found =
    subst (λ (l : ByQuestion (ByLive ℤ)). StateFound (decode b).effect (decode b).row (traffic_of l) limit (decode b).rows s)
    (live_back (n.near Greatest) (o.near Greatest) (n.near Least) (o.near Least)) found

-- each kind's values, each sense's position and each limit state make the parts of an account
parts : {job : Job} {a : Account} → TrafficFound job normal a.normal → TrafficFound job overload a.overload → PositionRight job.line Raising a.raising → PositionRight job.line Lowering a.lowering →
    StateOf job a service a.service → StateOf job a ultimate a.ultimate → a.first ≡ lanes_of job.deck → a.second ≡ second_lanes job → a.walked ≡ records_walked job → PartsRight job a
parts {job} {a} n o r l s u count second walked = record { traffic = placed; positions = positions; states = by_limit (λ limit. StateOf job a limit (state_in a limit)) s u; first_count = count; second_count = second; walked = walked }
  where
    placed : (q : Question) (live : Live) → HasTraffic live → TrafficPlaced q job live (for_question q (traffic_in a live))
    placed q normal h = n.placed q
    placed q overload h = o.placed q
    placed q no_traffic h = elim h [ ]

    positions : (sense : Sense) → PositionRight job.line sense (position_of a sense)
    positions Raising = r
    positions Lowering = l

pub limit_states-found-requires : goal.limit_states-found-requires
limit_states-found-requires c =
    let n = c.traffic-traffic.ensures.normal in
    let o = c.traffic-traffic.ensures.overload in
    (c.requires, by_question _ (near_back (n.near Greatest), near_back (o.near Greatest)) (near_back (n.near Least), near_back (o.near Least)))

pub returns : goal.returns
returns c =
    let b = c.args.job.now in
    let t = c.traffic-traffic.ensures in
    let sought = c.sought-senses.ensures in
    let states = c.limit_states-found.result.states in
    let found = handed b c.traffic-traffic.result t.normal t.overload in
    parts t.normal t.overload (sought Raising).position (sought Lowering).position (found service states.service (c.limit_states-found.ensures.state_found service)) (found ultimate states.ultimate (c.limit_states-found.ensures.state_found ultimate)) c.across-across.ensures.first c.across-across.ensures.second c.limit_states-found.ensures.walked_value

-- A live kind's best loading in a job: each lane's element, the lanes of its placement, and its value.
use Rattle.std.specs.Prelude.{◌≡◌, Bool, List, ℕ, ◌≤◌, ◌<◌, length, get_or, eqb, if◌then◌else◌}
use Rattle.exact.specs.declared.Question.{Question}
use Rattle.model.specs.Job.{Job, Live, rural}
use Rattle.model.specs.Format.{profile_of}
use Rattle.model.specs.Line.{Kind, HN, HO, line_effect}
use Rattle.model.specs.Lanes.{bit, lanes}
use Rattle.model.specs.Traffic.{lane_effect, best_sum, traffic_value}
use Rattle.model.specs.Arrangements.{KindsFit, FactorsFit}
use Rattle.model.specs.Answered.{empty_lane, lane_at, factor_at, set_of}
use Rattle.model.specs.Placements.{BestCentre, EntryRight, entry_is, placed_lanes, placed_sum}
use Rattle.magnitudes.specs.Magnitudes.{hn_line_most, ho_line_most}
use Rattle.model.specs.declared.Edition.{Edition}
use Rattle.model.specs.declared.Sense.TheVariants.{Raising, Lowering}
use Rattle.model.specs.declared.Entry.TheVariants.{Unloaded, Hn, Ho}
use Rattle.model.specs.declared.Lane.{Lane}
use Rattle.model.specs.declared.Extreme.{Extreme}
use Rattle.centres.specs.Spanned.{Spanned}
use Rattle.centres.specs.declared.across.Across.{Across}
use Rattle.sets.specs.Sets.{number_at, LoadingRight}
use Rattle.sets.specs.declared.Loading.{Loading}
use Rattle.lanes.specs.Entries.{Effects, LoadsFit}
use Rattle.lanes.specs.declared.entries.Chosen.{Chosen}

-- a kind's line effects in a job
abbrev pub effects_of : Job → Kind → Effects
effects_of job kind = record { raising = line_effect job.line kind Raising; lowering = line_effect job.line kind Lowering }

-- what is asked of a question's loads: one lane on a rural bridge, a dynamic factor from 1 to 1.3, and line effects near enough
pub record TrafficFits (edition : Edition) (across : Across) (dynamic : ℕ) (hn ho : Effects) : Type 0 where
  pub one : profile_of edition ≡ rural → across.lanes ≡ 1
  pub least : 1000 ≤ dynamic
  pub most : dynamic ≤ 1300
  pub light : LoadsFit hn_line_most across hn
  pub heavy : LoadsFit ho_line_most across ho

-- ---- the lanes of a placement

-- a lane by two tests, whether it is the HO lane and whether the set has it, and its factor
abbrev pub lane_by : (hn over : Chosen) → (factor : ℕ) → (isHo in_set : Bool) → Lane
lane_by hn over factor isHo in_set =
    if isHo then record { entry = Ho over.sense; centre = over.centre; factor = 0 }
    else (if in_set then record { entry = Hn hn.sense; centre = hn.centre; factor = factor } else empty_lane)

-- lane i of a loading: HO in its lane, HN where the set has it
abbrev pub lane_of : Loading → (i : ℕ) → (hn over : Chosen) → Lane
lane_of best i hn over = lane_by hn over (number_at best.factors i) (eqb i best.lane) (bit best.set i)

-- n lanes by a loading, and unloaded ones to ten
pub record LanesPlaced (best : Loading) (n : ℕ) (hn over : ℕ → Chosen) (lanes : List Lane) : Type 0 where
  pub ten : length lanes ≡ 10
  pub each : (i : ℕ) → i < n → get_or lanes i empty_lane ≡ lane_of best i (hn i) (over i)
  pub past : (i : ℕ) → n ≤ i → get_or lanes i empty_lane ≡ empty_lane

-- ---- a traffic value

-- an element of the kind in lane i gives the lane's best
pub record ElementRight (q : Question) (job : Job) (kind : Kind) (i : ℕ) (c : Chosen) : Type 0 where
  pub value : c.value ≡ lane_effect q job kind i
  pub at : BestCentre q job kind c.sense i c.centre

-- a live kind's best loading in a job, with the elements of its lanes
pub record LoadingOf (q : Question) (job : Job) (live : Live) (across : Across) (dynamic : ℕ) (best : Loading) (hn ho : ℕ → Chosen) : Type 0 where
  pub spanned : Spanned job across
  pub dynamic_is : dynamic ≡ job.dynamic q
  pub loading : LoadingRight q job.profile live (lanes job) (lane_effect q job HN) (lane_effect q job HO) best
  pub under_hn : (i : ℕ) → i < lanes job → ElementRight q job HN i (hn i)
  pub under_ho : (i : ℕ) → i < lanes job → i ≡ best.lane → ElementRight q job HO i (ho i)

-- a placement of a live kind whose entries are each a best of their lane, and whose sum is the best sum
pub record TrafficPlaced (q : Question) (job : Job) (live : Live) (x : Extreme) : Type 0 where
  pub value : x.value ≡ traffic_value q job live
  pub entries : (i : ℕ) → i < lanes job → EntryRight q job i (lane_at x.placement i).entry (lane_at x.placement i).centre
  pub kinds : KindsFit job.profile live (placed_lanes job HN x.placement) (placed_lanes job HO x.placement)
  pub factors : FactorsFit live (lanes job) (λ i. entry_is HN (lane_at x.placement i).entry) (factor_at x.placement)
  pub sum : placed_sum q job live x.placement ≡ best_sum q job live
  pub set : x.placement.set ≡ set_of x.placement.lanes
  pub on_deck : (i : ℕ) → lanes job ≤ i → (lane_at x.placement i).entry ≡ Unloaded
  pub idle : (i : ℕ) → (lane_at x.placement i).entry ≡ Unloaded → lane_at x.placement i ≡ empty_lane

-- A placement by its lanes' entries: what each gives, and their sum. No promise cites it: the contracts of lanes and the proofs do.
use mathlib.Core.{Path.◌≡◌, Bool.Bool, Bool.true, Bool.false}
use Rattle.std.specs.Prelude.{ℕ, ◌≤◌, ℤ, pos, ◌*ℤ◌, if◌then◌else◌}
use Rattle.exact.specs.{Ranges.count_to, declared.Question.Question}
use Rattle.model.specs.Job.{Job, Live}
use Rattle.model.specs.Line.{Kind, HN, HO, line_effect}
use Rattle.model.specs.Lanes.{lanes, unit, in_units, lowest_in, highest_in, ordinate_in}
use Rattle.model.specs.Traffic.{lane_effect, sum_on}
use Rattle.model.specs.Answered.{lane_at, factor_at}
use Rattle.model.specs.declared.{Sense.Sense, Entry.Entry, Entry.TheVariants.Unloaded, Entry.TheVariants.Hn, Entry.TheVariants.Ho, Placement.Placement}

-- an element in lane i, at a centre in n-ths of a cm within the lane's limits, where its sense's line effect gives the lane's best
pub record BestCentre (q : Question) (job : Job) (kind : Kind) (sense : Sense) (i centre : ℕ) : Type 0 where
  pub low : lowest_in job i ≤ centre
  pub high : centre ≤ highest_in job i
  pub best : ordinate_in job i (unit job) (in_units job i centre) *ℤ line_effect job.line kind sense ≡ lane_effect q job kind i

-- a lane's entry is as good as any of its kind
abbrev pub EntryRight : Question → Job → ℕ → Entry → (centre : ℕ) → Type 0
EntryRight q job i Unloaded centre = Unit {0}
EntryRight q job i (Hn sense) centre = BestCentre q job HN sense i centre
EntryRight q job i (Ho sense) centre = BestCentre q job HO sense i centre

-- whether an entry is an element of the kind
abbrev pub entry_is : Kind → Entry → Bool
entry_is kind Unloaded = false
entry_is HN (Hn sense) = true
entry_is HN (Ho sense) = false
entry_is HO (Hn sense) = false
entry_is HO (Ho sense) = true

-- how many of a placement's lanes are of a kind
abbrev pub placed_lanes : Job → Kind → Placement → ℕ
placed_lanes job kind p = count_to (lanes job) (λ i. entry_is kind (lane_at p i).entry)

-- lane i's best where it is of the kind, else 0: 75 N·U times thousandths times the sums' denominator
abbrev pub placed_under : Question → Job → Kind → Placement → (i : ℕ) → ℤ
placed_under q job kind p i = if entry_is kind (lane_at p i).entry then lane_effect q job kind i else pos 0

-- a placement's X but for the dynamic factor
abbrev pub placed_sum : Question → Job → Live → Placement → ℤ
placed_sum q job live p = sum_on job.profile live (lanes job) (placed_under q job HN p) (placed_under q job HO p) (placed_lanes job HN p) (factor_at p)

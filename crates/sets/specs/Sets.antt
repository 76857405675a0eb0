-- Sets of lanes as numbers, factors of additional lanes, and the best of them: by the lanes' ranks.
use Rattle.std.specs.Prelude.{◌≡◌, ◌⊎◌, Bool, false, not, List, ℕ, ◌-◌, ◌*◌, ◌^◌, ◌≤◌, ◌<◌, ℤ, pos, ◌*ℤ◌, ltb, eqb, get_or, if◌then◌else◌}
use Rattle.exact.specs.Bounds.{Within}
use Rattle.exact.specs.Questions.{NoBetter, beats}
use Rattle.exact.specs.Ranges.{sum_to, count_to}
use Rattle.exact.specs.declared.Question.{Question}
use Rattle.model.specs.Job.{Profile, Live}
use Rattle.model.specs.Lanes.{bit, reduction, additional}
use Rattle.model.specs.Traffic.{overload_sum, sum_on, best_on}
use Rattle.model.specs.Arrangements.{KindsFit, FactorsFit}
use Rattle.magnitudes.specs.Magnitudes.{hn_lane_most, among, factored_most, sum_most}
use Rattle.sets.specs.declared.Group.{Group}
use Rattle.sets.specs.declared.Loading.{Loading}

-- lane i's value: 75 N·U times thousandths times the sums' denominator
abbrev pub value_at : List ℤ → ℕ → ℤ
value_at values i = get_or values i (pos 0)

-- lane i's rank or factor
abbrev pub number_at : List ℕ → ℕ → ℕ
number_at numbers i = get_or numbers i 0

-- n lanes' values: none worse than 0 for the question, each at most b from 0
pub record ValuesFit (q : Question) (b n : ℕ) (v : ℕ → ℤ) : Type 0 where
  pub some : (i : ℕ) → i < n → NoBetter q (pos 0) (v i)
  pub near : (i : ℕ) → i < n → Within b (v i)

-- ---- ranks

-- lane k precedes lane i: its value is better, or no worse and it has the lower number
abbrev pub precedes : Question → (v : ℕ → ℤ) → (k i : ℕ) → Bool
precedes q v k i = if ltb k i then not (beats q (v i) (v k)) else beats q (v k) (v i)

-- lane i's rank among n lanes, from 0: how many precede it
unfoldable pub rank : Question → (n : ℕ) → (v : ℕ → ℤ) → (i : ℕ) → ℕ
rank q n v i = count_to n (λ k. precedes q v k i)

-- the ranks of n lanes, and 0 past the last
pub record Ranked (q : Question) (n : ℕ) (v : ℕ → ℤ) (ranks : List ℕ) : Type 0 where
  pub each : (i : ℕ) → i < n → number_at ranks i ≡ rank q n v i
  pub past : (i : ℕ) → n ≤ i → number_at ranks i ≡ 0

-- the values of at most ten lanes, none worse than 0 and each near enough, and their ranks
pub record RankingFits (q : Question) (n : ℕ) (hn : List ℤ) (ranks : List ℕ) : Type 0 where
  pub few : n ≤ 10
  pub values : ValuesFit q (among n hn_lane_most) n (value_at hn)
  pub ranked : Ranked q n (value_at hn) ranks

-- ---- normal

-- a group of the lanes whose rank is below m
pub record FirstLanes (n : ℕ) (ranks : ℕ → ℕ) (v : ℕ → ℤ) (m : ℕ) (group : Group) : Type 0 where
  pub small : group.set < 2 ^ n
  pub bits : (i : ℕ) → i < n → bit group.set i ≡ ltb (ranks i) m
  pub sum : group.sum ≡ sum_to n (λ i. if ltb (ranks i) m then v i else pos 0)
  pub near : Within (10 * hn_lane_most) group.sum

-- a loading of the lanes whose rank is below m, under HN at the r of their number
pub record FirstAt (n : ℕ) (ranks : ℕ → ℕ) (v : ℕ → ℤ) (m : ℕ) (r : Loading) : Type 0 where
  pub lane : r.lane ≡ 10
  pub small : r.set < 2 ^ n
  pub bits : (i : ℕ) → i < n → bit r.set i ≡ ltb (ranks i) m
  pub none : (i : ℕ) → number_at r.factors i ≡ 0
  pub value : r.value ≡ reduction (count_to n (λ i. ltb (ranks i) m)) *ℤ sum_to n (λ i. if ltb (ranks i) m then v i else pos 0)

-- ---- overload

-- lane i's factor beside HO in lane o, in twentieths: that of its rank among the others, where its value beats 0
unfoldable pub factor_by_rank : Question → (ranks : ℕ → ℕ) → (v : ℕ → ℤ) → (o i : ℕ) → ℕ
factor_by_rank q ranks v o i = if eqb i o then 0 else (if beats q (v i) (pos 0) then additional (if ltb (ranks o) (ranks i) then ranks i - 1 else ranks i) else 0)

-- a group of the lanes that have a factor, each at its own, and the factors, 0 past the last lane
pub record OthersRight (n : ℕ) (factor : ℕ → ℕ) (v : ℕ → ℤ) (group : Group) (all : List ℕ) : Type 0 where
  pub small : group.set < 2 ^ n
  pub bits : (i : ℕ) → i < n → bit group.set i ≡ ltb 0 (factor i)
  pub sum : group.sum ≡ sum_to n (λ i. pos (factor i) *ℤ v i)
  pub near : Within (10 * factored_most) group.sum
  pub factors : (i : ℕ) → i < n → number_at all i ≡ factor i
  pub past : (i : ℕ) → n ≤ i → number_at all i ≡ 0

-- a loading of HO of this value in lane o, and of HN in the lanes that have a factor
pub record OverloadAt (n : ℕ) (factor : ℕ → ℕ) (v : ℕ → ℤ) (ho : ℤ) (o : ℕ) (r : Loading) : Type 0 where
  pub lane : r.lane ≡ o
  pub small : r.set < 2 ^ n
  pub bits : (i : ℕ) → i < n → bit r.set i ≡ ltb 0 (factor i)
  pub factors : (i : ℕ) → i < n → number_at r.factors i ≡ factor i
  pub past : (i : ℕ) → n ≤ i → number_at r.factors i ≡ 0
  pub value : r.value ≡ overload_sum n v ho factor

-- ---- the best loading

-- a live kind's HO lane, set of HN lanes and factors, which keep its rules, and whose sum is the kind's best for the loads
pub record LoadingRight (q : Question) (profile : Profile) (live : Live) (n : ℕ) (hn ho : ℕ → ℤ) (r : Loading) : Type 0 where
  pub lane : (r.lane < n) ⊎ (r.lane ≡ 10)
  pub kinds : KindsFit profile live (count_to n (bit r.set)) (count_to n (λ i. eqb i r.lane))
  pub small : r.set < 2 ^ n
  pub apart : bit r.set r.lane ≡ false
  pub factors : FactorsFit live n (bit r.set) (number_at r.factors)
  pub past : (i : ℕ) → n ≤ i → number_at r.factors i ≡ 0
  pub value : r.value ≡ sum_on profile live n (λ i. if bit r.set i then hn i else pos 0) (λ i. if eqb i r.lane then ho i else pos 0) (count_to n (bit r.set)) (number_at r.factors)
  pub best : r.value ≡ best_on q profile live n hn ho
  pub near : Within sum_most r.value

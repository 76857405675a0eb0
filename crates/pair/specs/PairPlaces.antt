-- Where the axle pair stands, and what it counts there. Its places count stations and sides: place p is station p / 2, from the left where p is even.
use Rattle.std.specs.Prelude.{ℕ, ◌+◌, ◌-◌, ◌*◌, ◌/◌, ◌%◌, ◌≤◌, List, ◌≡◌, ℤ, pos, neg_ℤ, ◌+ℤ◌, ◌*ℤ◌, eqb, if◌then◌else◌}
use Rattle.exact.specs.Questions.{extreme, for_question}
use Rattle.exact.specs.declared.ByQuestion.{ByQuestion}
use Rattle.exact.specs.declared.Question.{Question}
use Rattle.exact.specs.declared.Question.TheVariants.{Greatest, Least}
use Rattle.magnitudes.specs.Magnitudes.{pair_most}
use Rattle.words.specs.Words.{word_at}
use Rattle.model.specs.Job.{InfluenceLine}
use Rattle.model.specs.Line.{pair, station}
use Rattle.model.specs.declared.Side.{Side}
use Rattle.model.specs.declared.Side.TheVariants.{Left, Right}
use Rattle.pair.specs.declared.Stand.{Stand}
use Rattle.pair.specs.declared.Axles.{Axles}
use Rattle.pair.specs.declared.Axles.TheVariants.{Ahead, Both, Behind}
use Rattle.pair.specs.LineFits.{WordFits}

-- the pair's ordinates at station s
abbrev pub pair_at : InfluenceLine → ℕ → Side → ℤ
pair_at line s side = pair line 1 (station line s) side

-- the side of place p
abbrev pub side_at : ℕ → Side
side_at p = if eqb (p % 2) 0 then Left else Right

-- the pair's ordinates at place p
unfoldable pub placed : InfluenceLine → ℕ → ℤ
placed line p = pair_at line (p / 2) (side_at p)

-- a stand at place p, with the pair's ordinates v
abbrev pub stand_of : ℤ → ℕ → Stand
stand_of v p = record { value = v; station = p / 2; side = side_at p }

-- turned so that for either question the less is the better
abbrev pub turned : Question → ℤ → ℤ
turned Greatest x = neg_ℤ x
turned Least x = x

-- ordinates v and their place in one number, 16 bits each: the better ordinates, at a tie the lower place
abbrev pub rank_of : Question → ℤ → ℕ → ℤ
rank_of q v p = pos 65536 *ℤ v +ℤ turned q (pos p)

-- a rank's most, the place being at most 4095: the pair has at most 2102 places
abbrev pub rank_most : ℕ
rank_most = 65536 * pair_most + 4095

-- the best rank of places 0 .. m, where place p counts f p
unfoldable pub best_rank : Question → (ℕ → ℤ) → ℕ → ℤ
best_rank q f m = extreme q m (λ p. rank_of q (f p) p)

-- both ranks are the best of places 0 .. m
abbrev pub RanksRight : (ℕ → ℤ) → ℕ → ByQuestion ℤ → Type 0
RanksRight f m r = (q : Question) → for_question q r ≡ best_rank q f m

-- what the pair counts with its right axle on word k, the left one so many words behind: the words of the axles that are on the line
abbrev pub count_of : List ℕ → Axles → ℕ → ℤ
count_of s Ahead k = word_at s k
count_of s (Both apart) k = word_at s (k - apart) +ℤ word_at s k
count_of s (Behind apart) k = word_at s (k - apart)

-- these words are there and within their limits
abbrev pub CountFits : List ℕ → Axles → ℕ → Type 0
CountFits s Ahead k = WordFits s k
CountFits s (Both apart) k = (apart ≤ k) × WordFits s (k - apart) × WordFits s k
CountFits s (Behind apart) k = (apart ≤ k) × WordFits s (k - apart)

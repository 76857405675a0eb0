-- What a chain's best value comes with.
use Rattle.std.specs.Prelude.{ℕ, ◌-◌, ◌^◌, ◌≤◌, ◌≡◌, Bool, ◌&&◌, List, pos, ◌+ℤ◌, ◌*ℤ◌, if◌then◌else◌}
use Rattle.std.specs.Int.Bits.{bit_or}
use Rattle.exact.specs.Bounds.{Within}
use Rattle.exact.specs.Questions.{beats}
use Rattle.exact.specs.declared.Question.{Question}
use Rattle.magnitudes.specs.Magnitudes.{share_most, chain_most}
use Rattle.model.specs.Chains.{record_effect, record_factor}
use Rattle.model.specs.Job.{Effect, Term}
use Rattle.model.specs.Rows.{share, chain_value, MayOmit, best_chain}
use Rattle.model.specs.Answered.{omits}
use Rattle.omissions.specs.declared.Stated.{Stated}
use Rattle.omissions.specs.declared.Share.{Share}
use Rattle.omissions.specs.declared.Chained.{Chained}

-- an effect is stated right: its unit times its number is its value in N·U
pub record StatedRight (effect : Effect) (x : Stated) : Type 0 where
  pub value : x.unit *ℤ x.number ≡ effect.value
  pub optional : x.optional ≡ effect.optional

-- a term by its effect and its factor
abbrev pub term_of : (e factor : ℕ) → Term
term_of e factor = record { effect = e; factor = factor }

-- record c's content
abbrev pub term_at : List ℕ → ℕ → Term
term_at s c = term_of (record_effect s c) (record_factor s c)

-- a share is the term's
pub record ShareRight (effect : ℕ → Effect) (t : Term) (x : Share) : Type 0 where
  pub value : x.value ≡ share effect t
  pub optional : x.optional ≡ (effect t.effect).optional
  pub bit : x.bit ≡ 2 ^ (t.effect - 1)
  -- there is no effect 0
  pub first : 1 ≤ t.effect
  -- what it may come to
  pub near : Within share_most x.value

-- the share may be left out, and that is better
abbrev pub leaves_share : Question → Share → Bool
leaves_share q x = x.optional && beats q (pos 0) x.value

-- a chain's best with one share more: its bit where it is left out, else its value
abbrev pub extended_by : Question → Share → Chained → Chained
extended_by q x sofar =
    if leaves_share q x
    then record { value = sofar.value; omitted = bit_or sofar.omitted x.bit }
    else record { value = sofar.value +ℤ x.value; omitted = sofar.omitted }

-- a chain's best value is right: it equals the model's, and its omissions are allowed and give it exactly
pub record ChainRight (q : Question) (effect : ℕ → Effect) (terms : List Term) (x : Chained) : Type 0 where
  pub value : x.value ≡ best_chain q effect terms
  pub gives : chain_value effect (omits x.omitted) terms ≡ x.value
  pub may_omit : MayOmit effect terms (omits x.omitted)
  -- what it may come to
  pub near : Within chain_most x.value

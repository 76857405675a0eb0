-- What a host may conclude from the result of a call.
use mathlib.Core.Path.{◌≡◌, refl, sym, ◌∙◌, ap}
use Rattle.std.specs.Prelude.{None}
use mathlib.Core.List.{List, ◌++◌}
use Prim.Native.Nat.{ℕ, ◌/◌, ◌%◌, ◌≤◌}
use native.Mathlib.Omega.{arith}
use lib.ListN.{length, drop, replicate}
use Rattle.model.specs.Refusals.{packed, verdict}
use Rattle.model.specs.Answers.{Answer}
use Rattle.model.specs.Answered.{Answered, refused, accepted, zero_account, number_in, place_in, account_in}
use Rattle.model.specs.Determined.{Fixed, fixed_of}
use Rattle.model.proofs.Determined.{determined}
use Rattle.model.proofs.RefusalNumbers.{number_small}
use Rattle.numbers.specs.NumberBytes.{numbers_bytes}
use Rattle.encode.specs.Encoding.{account_size, account_bytes}
use Rattle.host.specs.Hosted.{Hosted, short, answered}

-- number and place come apart again, as the header takes them
pub taken_apart : {b before after : List ℕ} {a : Answer} → Answered b before a after → (packed (number_in a) (place_in a) % 256 ≡ number_in a) × (packed (number_in a) (place_in a) / 256 ≡ place_in a)
taken_apart {b} {before} (refused r v u p) = let s = number_small b (length before) v in rw u (omega arith)
taken_apart (accepted v a u r) = rw u (omega arith)

-- 0 is acceptance, and only that
pub zero_accepts : {job patch account p a : List ℕ} → Hosted job patch account 0 p a → (account_size ≤ length account) × (verdict job (length patch) ≡ None)
zero_accepts (short l e p a) = absurd (omega arith)
zero_accepts {job} {patch} (answered l x (refused r v u p) e a k) = let s = number_small job (length patch) v in absurd (omega (arith, e, ap number_in u))
zero_accepts (answered l x (accepted v y u r) e a k) = (l, v)

-- the account of a refusal is zero bytes
zero_bytes : account_bytes zero_account ≡ replicate account_size 0
unfolding numbers_bytes
zero_bytes = refl

-- a refusal leaves the patch buffer as it was and the account's bytes 0
pub refusal_clears : {job patch account p a : List ℕ} {result : ℕ} → Hosted job patch account result p a → (result ≡ 0 → ⊥) → account_size ≤ length account → (p ≡ patch) × (a ≡ replicate account_size 0 ++ drop account_size account)
refusal_clears (short l e p a) n h = absurd (omega arith)
refusal_clears {account = account} (answered l x (refused r v u p) e a k) n h = (p, a ∙ ap (λ (y : Answer). account_bytes (account_in y) ++ drop account_size account) u ∙ ap (λ (z : List ℕ). z ++ drop account_size account) zero_bytes)
refusal_clears (answered l x (accepted v y u r) e a k) n h = absurd (n (omega (arith, e, ap number_in u, ap place_in u)))

-- the same call gives the same result and the same patch bytes
pub same_result : {job patch account p p' a a' : List ℕ} {m n : ℕ} → Hosted job patch account m p a → Hosted job patch account n p' a' → (m ≡ n) × (p ≡ p')
unfolding fixed_of
same_result (short l e p a) (short l' f p' a') = (e ∙ sym f, p ∙ sym p')
same_result (short l e p a) (answered l' x r f a' k) = absurd (omega arith)
same_result (answered l x r e a k) (short l' f p' a') = absurd (omega arith)
same_result (answered l x r e a k) (answered l' y s f a' k') = let d = determined r s in (e ∙ ap (λ (z : Fixed). packed z.refusal z.place) d.0 ∙ sym f, d.1)

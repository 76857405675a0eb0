-- A reader takes no text that was cut short for an answer.
use Rattle.std.specs.Prelude.{if◌then◌else◌, None, Some, Ok, Err}
use mathlib.Core.Path.{◌≡◌, refl, sym, ap, ◌∙◌}
use mathlib.Core.Bool.{Bool, true, false, cond}
use mathlib.Core.List.{List, [], ◌∷◌, ◌++◌, append_assoc}
use Prim.Native.Nat.{ℕ, zero, suc, ◌+◌, ◌/◌, ◌%◌}
use native.Mathlib.Omega.{arith}
use Prim.Native.String.{String}
use lib.Dec.{ltb, eqb}
use lib.IntN.{ℤ, pos, negsuc}
use lib.ListN.{get_or}
use borrow.Author.Tests.{ne_eqb}
use Rattle.model.specs.Answers.{Traffic, State, Answer}
use Rattle.model.specs.declared.Governing.{Governing}
use Rattle.model.specs.declared.Refusal.{Refusal}
use Rattle.model.specs.declared.Account.{Account}
use Rattle.decimal.specs.Decimal.{ascii, digit, digits, decimal, signed}
use Rattle.print.specs.Text.{report, traffic_line, governing_text, state_line, account_text, refusal_line, answer_text}

-- how many newlines are in a text
unfoldable newlines : List ℕ → ℕ
newlines [] = 0
newlines (c ∷ s) = (if eqb c 10 then 1 else 0) + newlines s

newlines_append : (s t : List ℕ) → newlines (s ++ t) ≡ newlines s + newlines t
unfolding newlines
newlines_append [] t = omega arith
newlines_append (c ∷ s) t = let e = newlines_append s t in omega arith

-- a text of n lines, as far as they have ended
record Lines (s : List ℕ) (n : ℕ) : Type 0 where
  count : newlines s ≡ n

and_lines : {s t : List ℕ} {m n : ℕ} → Lines s m → Lines t n → Lines (s ++ t) (m + n)
and_lines {s} {t} a b = let e = newlines_append s t in record { count = omega (arith, a.count, b.count) }

-- a text whose last byte is a newline
record Ended (s : List ℕ) : Type 0 where
  body : List ℕ
  is : s ≡ body ++ (10 ∷ [])

and_ended : (s : List ℕ) {t : List ℕ} → Ended t → Ended (s ++ t)
and_ended s e = record { body = s ++ e.body; is = ap (λ (l : List ℕ). s ++ l) e.is ∙ sym (append_assoc s e.body _) }

-- what is left behind a part with all the newlines is nothing
none_left : (t rest : List ℕ) → [] ≡ t ++ rest → rest ≡ []
none_left [] rest e = sym e
none_left (c ∷ t) rest e = let z : ◌≡◌ {A = ℕ} 0 1 = cc in absurd (omega arith)

nothing_left : (s t rest : List ℕ) → s ++ (10 ∷ []) ≡ t ++ rest → newlines rest ≡ 0 → rest ≡ []
unfolding newlines
nothing_left [] [] rest e z = absurd (omega (arith, ap newlines e))
nothing_left [] (c ∷ t) rest e z = none_left t rest (cc)
nothing_left (b ∷ s) [] rest e z = absurd (omega (arith, ap newlines e, newlines_append s (10 ∷ [])))
nothing_left (b ∷ s) (c ∷ t) rest e z = nothing_left s t rest (cc) z

same_lines : {s t rest : List ℕ} {n : ℕ} → Lines s n → Lines t n → Ended s → s ≡ t ++ rest → rest ≡ []
same_lines {s} {t} {rest} a b l e =
    let f : newlines s ≡ newlines t + newlines rest = ap newlines e ∙ newlines_append t rest in
    nothing_left l.body t rest (sym l.is ∙ e) (omega (arith, a.count, b.count))

digit_line : (d : ℕ) → Lines (digit d) 0
unfolding newlines
digit_line d = record { count = ap (λ (b : Bool). cond b 1 0 + 0) (ne_eqb (48 + d) 10 (λ e. omega arith)) }

either : (b : Bool) {s t : List ℕ} {n : ℕ} → Lines s n → Lines t n → Lines (cond b s t) n
either true p q = p
either false p q = q

digits_line : (k n : ℕ) → Lines (digits k n) 0
unfolding newlines digits
digits_line zero n = record { count = refl }
digits_line (suc k) n = either (ltb n 10) (digit_line n) (and_lines (digits_line k (n / 10)) (digit_line (n % 10)))

word : (s : String) → Lines (ascii s) (newlines (ascii s))
word s = record { count = refl }

signed_line : (z : ℤ) → Lines (signed z) 0
unfolding newlines signed
signed_line (pos n) = digits_line 20 n
signed_line (negsuc n) = and_lines (word "-") (digits_line 20 (suc n))

report_lines : {name g l : List ℕ} → Lines name 0 → Lines g 0 → Lines l 0 → Lines (name ++ report g l) 1
unfolding newlines
report_lines name g l = and_lines name (and_lines (and_lines (and_lines (word " greatest ") g) (and_lines (word " least ") l)) (word "\n"))

traffic_lines : {name : List ℕ} (t : Traffic) → Lines name 0 → Lines (traffic_line name t) 1
traffic_lines t name = report_lines name (signed_line t.greatest.value) (signed_line t.least.value)

governing_lines : (g : Governing) → Lines (governing_text g) 0
unfolding newlines
governing_lines g = and_lines (signed_line g.value) (and_lines (word " row ") (digits_line 20 g.row))

state_lines : {name : List ℕ} (s : State) → Lines name 0 → Lines (state_line name s) 1
unfolding newlines
state_lines None name = and_lines name (word " none\n")
state_lines (Some x) name = report_lines name (governing_lines x.greatest) (governing_lines x.least)

account_lines : (a : Account) → Lines (account_text a) 4
unfolding newlines
account_lines a =
    and_lines
    (and_lines (and_lines (traffic_lines a.normal (word "normal")) (traffic_lines a.overload (word "overload"))) (state_lines a.service (word "service")))
    (state_lines a.ultimate (word "ultimate"))

refusal_lines : (r : Refusal) → Lines (refusal_line r) 1
unfolding newlines
refusal_lines r =
    and_lines (and_lines (and_lines (word "refused ") (digits_line 20 r.number)) (and_lines (word " at ") (digits_line 20 r.place))) (word "\n")

state_ended : (name : List ℕ) (s : State) → Ended (state_line name s)
state_ended name None = and_ended name (record { body = ascii " none"; is = refl })
state_ended name (Some x) = and_ended name (and_ended ((ascii " greatest " ++ governing_text x.greatest) ++ (ascii " least " ++ governing_text x.least)) (record { body = []; is = refl }))

account_ended : (a : Account) → Ended (account_text a)
account_ended a =
    and_ended
    (traffic_line (ascii "normal") a.normal ++ traffic_line (ascii "overload") a.overload ++ state_line (ascii "service") a.service)
    (state_ended (ascii "ultimate") a.ultimate)

refusal_ended : (r : Refusal) → Ended (refusal_line r)
refusal_ended r = record { body = (ascii "refused " ++ decimal r.number) ++ (ascii " at " ++ decimal r.place); is = refl }

-- no answer's text begins another's: one that was cut short is no answer's
pub cut_short : (a b : Answer) (rest : List ℕ) → answer_text a ≡ answer_text b ++ rest → rest ≡ []
cut_short (Ok a) (Ok b) rest e = same_lines (account_lines a) (account_lines b) (account_ended a) e
cut_short (Err r) (Err t) rest e = same_lines (refusal_lines r) (refusal_lines t) (refusal_ended r) e
cut_short (Ok a) (Err t) rest e = let n : ◌≡◌ {A = ℕ} 110 114 = ap (λ (s : List ℕ). get_or s 0 0) e in absurd (omega arith)
cut_short (Err r) (Ok b) rest e = let n : ◌≡◌ {A = ℕ} 114 110 = ap (λ (s : List ℕ). get_or s 0 0) e in absurd (omega arith)

-- A chain's factors, gathered record by record.
use Rattle.std.specs.Prelude.{if◌then◌else◌}
use mathlib.Core.Path.{◌≡◌, refl, sym, ◌∙◌, ap, subst}
use mathlib.Core.Bool.{Bool, ◌||◌}
use mathlib.Core.List.{List, [], ◌∷◌}
use Prim.Native.Nat.{ℕ, suc, ◌+◌, ◌-◌, ◌≤◌, ◌<◌}
use native.Mathlib.Decide.{ℕ_discrete}
use native.Mathlib.Omega.{arith}
use lib.ListN.{length, get_or, set, replicate, length-set, get_or-replicate}
use lib.Seq.{get_or-set_same, get_or-set_other, ext_get_or}
use borrow.Author.Tests.{eq-eqb, ne_eqb}
use Rattle.exact.specs.Ranges.{list_of}
use Rattle.exact.proofs.Bridge.{by_test}
use Rattle.exact.proofs.Ranges.{get_or_list_of}
use Rattle.model.specs.Chains.{record_effect, record_factor, next_record}
use Rattle.model.specs.Decode.{terms_from}
use Rattle.model.specs.Job.{Term}
use Rattle.model.specs.Rows.{names}
use Rattle.model.specs.StandardForm.{factor_of}
use Rattle.omissions.specs.ChainTables.{Distinct}
use Rattle.omissions.specs.Chained.{term_of}
use Rattle.omissions.proofs.Terms.{terms_next}
use Rattle.forms.proofs.Rising.{unnamed}

-- the factors of effects 1 to 16
abbrev pub listed : List Term → List ℕ
listed ts = list_of 16 (λ j. factor_of ts (suc j))

-- with `rest` still to gather, each effect has its factor there or among those found
pub record Gathered (whole rest : List Term) (found : List ℕ) : Type 0 where
  pub size : length found ≡ 16
  pub distinct : Distinct rest
  pub is : (j : ℕ) → j < 16 → factor_of whole (suc j) ≡ (if names rest (suc j) then factor_of rest (suc j) else get_or found j 0)

pub none_gathered : {ts us : List Term} → us ≡ ts → Distinct ts → Gathered ts us (replicate 16 0)
none_gathered {ts} e d = subst (λ (us : List Term). Gathered ts us (replicate 16 0)) (sym e) (record {
  size = refl;
  distinct = d;
  is = λ j h.
      by_test (names ts (suc j)) (λ b. factor_of ts (suc j) ≡ (if b then factor_of ts (suc j) else get_or (replicate 16 0) j 0))
      (λ _. refl) (λ z. unnamed ts (suc j) z ∙ sym (get_or-replicate 16 j 0 0 (omega arith)));
})

-- one term less to gather
one_gathered : {whole rest : List Term} {found : List ℕ} {e x : ℕ} → 1 ≤ e → e ≤ 16 → Gathered whole (term_of e x ∷ rest) found → Gathered whole rest (set found (e - 1) x)
one_gathered {whole} {rest} {found} {e} {x} l m g = record {
  size = length-set found (e - 1) x ∙ g.size;
  distinct = g.distinct.1;
  is = λ j h.
      let shown : Bool → ℕ = λ b. if (b || names rest (suc j)) then (if b then x else factor_of rest (suc j)) else get_or found j 0 in
      elim (ℕ_discrete j (e - 1)) [
        | yes p ↦
            let here : e ≡ suc j = omega arith in
            let there : e - 1 ≡ j = sym p in
            g.is j h ∙ ap shown (eq-eqb e (suc j) here)
            ∙ sym (ap (λ (b : Bool). if b then factor_of rest (suc j) else get_or (set found (e - 1) x) j 0) (ap (names rest) (sym here) ∙ g.distinct.0)
            ∙ ap (λ (k : ℕ). get_or (set found k x) j 0) there
            ∙ get_or-set_same found j x 0 (omega (arith, g.size)))
        | no p ↦
            g.is j h ∙ ap shown (ne_eqb e (suc j) (λ z. p (omega arith)))
            ∙ ap (λ (k : ℕ). if names rest (suc j) then factor_of rest (suc j) else k) (sym (get_or-set_other found (e - 1) j x 0 p))
      ];
}

-- the record at c gathered, and the next one stood at
pub gathered_on : (s : List ℕ) {whole : List Term} {found : List ℕ} (left i c : ℕ) {e x next : ℕ} → ¬ (c ≡ 0) → i < left → e ≡ record_effect s c → x ≡ record_factor s c → next ≡ next_record s c → 1 ≤ e → e ≤ 16 →
    Gathered whole (terms_from s (left - i) c) found → Gathered whole (terms_from s (left - (i + 1)) next) (set found (e - 1) x)
gathered_on s {whole} {found} left i c {e} {x} {next} on more effect factor lead l m g =
    let less : left - i - 1 ≡ left - (i + 1) = omega arith in
    let rest = terms_from s (left - i - 1) (next_record s c) in
    let parts : terms_from s (left - i) c ≡ term_of e x ∷ rest = terms_next s (left - i) c on (λ z. omega arith) ∙ ap (λ (k : ℕ). term_of k (record_factor s c) ∷ rest) (sym effect) ∙ ap (λ (k : ℕ). term_of e k ∷ rest) (sym factor) in
    subst (λ (k : ℕ). Gathered whole (terms_from s (left - (i + 1)) k) (set found (e - 1) x)) (sym lead)
    (subst (λ (k : ℕ). Gathered whole (terms_from s k (next_record s c)) (set found (e - 1) x)) less
    (one_gathered l m (subst (λ (us : List Term). Gathered whole us found) parts g)))

-- all are
pub all_gathered : {whole rest : List Term} {found : List ℕ} → rest ≡ [] → Gathered whole rest found → found ≡ listed whole
all_gathered {whole} {rest} {found} e g = ext_get_or 0 found (listed whole) g.size λ j h.
    let few : j < 16 = omega (arith, g.size) in
    sym (get_or_list_of 16 (λ j. factor_of whole (suc j)) j 0 few ∙ g.is j few ∙ ap (λ (us : List Term). if names us (suc j) then factor_of us (suc j) else get_or found j 0) e)

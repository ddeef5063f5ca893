-- Thinning: it makes no difference whether what is put behind a list was thinned before. Assumes nothing.
use mathlib.Core.Path.{◌≡◌, refl, sym, ap, subst, ◌∙◌}
use mathlib.Core.Bool.{Bool, true, false, cond, ◌&&◌, false≢true}
use mathlib.Core.List.{List, [], ◌∷◌, ◌++◌}
use Prim.Native.Nat.{ℕ, zero, suc, ◌<◌, ◌≤◌}
use native.Mathlib.Nat.{zero-lt-suc, lt_irrefl, suc-le-suc_iff, le_refl, le_trans}
use native.Mathlib.Omega.{arith}
use lib.Dec.{eqb, ltb}
use lib.ListN.{length, get_or, take, drop, length-append, take-append-drop, get_or-append}
use lib.Seq.{length-take-le, drop-append-le, get_or-append_seam}
use borrow.Author.Tests.{eq-eqb, eqb-true, ltb-true, ltb-false}
use Rattle.layout.specs.State.{Remark, same_remark, remarked, noted, thinned, thin}
use Rattle.layout.specs.Build.{zero_remark}

-- equality by value

pub same_refl : (r : Remark) → same_remark r r ≡ true
same_refl r = simp (eq-eqb r.kind r.kind refl, eq-eqb r.structure r.structure refl, eq-eqb r.member r.member refl, eq-eqb r.detail r.detail refl)

both : (a b : Bool) → a && b ≡ true → (a ≡ true) × (b ≡ true)
both true true e = (refl, refl)
both true false e = absurd (false≢true e)
both false b e = absurd (false≢true e)

abbrev remark : ℕ → ℕ → ℕ → ℕ → Remark
remark a b c d = record { kind = a; structure = b; member = c; detail = d }

four : {a b c d e f g h : ℕ} → a ≡ e → b ≡ f → c ≡ g → d ≡ h → remark a b c d ≡ remark e f g h
four {a} {b} {c} {d} {e} {f} {g} {h} p q r s =
    ap (λ (k : ℕ). remark k b c d) p ∙ ap (λ (k : ℕ). remark e k c d) q ∙ ap (λ (k : ℕ). remark e f k d) r ∙ ap (λ (k : ℕ). remark e f g k) s

pub same_is : (a b : Remark) → same_remark a b ≡ true → a ≡ b
same_is a b e =
    let p = both (eqb a.kind b.kind && eqb a.structure b.structure && eqb a.member b.member) (eqb a.detail b.detail) e in
    let q = both (eqb a.kind b.kind && eqb a.structure b.structure) (eqb a.member b.member) p.0 in
    let r = both (eqb a.kind b.kind) (eqb a.structure b.structure) q.0 in
    four (eqb-true a.kind b.kind r.0) (eqb-true a.structure b.structure r.1) (eqb-true a.member b.member q.1) (eqb-true a.detail b.detail p.1)

-- one remark

pub noted_in : (r : Remark) (l : List Remark) → remarked r l ≡ true → noted r l ≡ l
unfolding noted
noted_in r l e = rw e refl

pub noted_out : (r : Remark) (l : List Remark) → remarked r l ≡ false → noted r l ≡ l ++ (r ∷ [])
unfolding noted
noted_out r l e = rw e refl

head : (b c : Bool) → c ≡ true → cond b true c ≡ true
head true c e = refl
head false c e = e

more : (b c d : Bool) → (c ≡ true → d ≡ true) → cond b true c ≡ true → cond b true d ≡ true
more true c d f e = refl
more false c d f e = f e

remarked_left : (r : Remark) (l m : List Remark) → remarked r l ≡ true → remarked r (l ++ m) ≡ true
unfolding remarked
remarked_left r [] m e = absurd (false≢true e)
remarked_left r (q ∷ l) m e = more (same_remark q r) (remarked r l) (remarked r (l ++ m)) (remarked_left r l m) e

remarked_last : (r : Remark) (l : List Remark) → remarked r (l ++ (r ∷ [])) ≡ true
unfolding remarked
remarked_last r [] = rw (same_refl r) refl
remarked_last r (q ∷ l) = head (same_remark q r) (remarked r (l ++ (r ∷ []))) (remarked_last r l)

stays_noted : (r q : Remark) (l : List Remark) (b : Bool) → remarked q l ≡ b → remarked r l ≡ true → remarked r (noted q l) ≡ true
stays_noted r q l true m e = ap (remarked r) (noted_in q l m) ∙ e
stays_noted r q l false m e = ap (remarked r) (noted_out q l m) ∙ remarked_left r l (q ∷ []) e

is_noted : (r : Remark) (l : List Remark) (b : Bool) → remarked r l ≡ b → remarked r (noted r l) ≡ true
is_noted r l true m = ap (remarked r) (noted_in r l m) ∙ m
is_noted r l false m = ap (remarked r) (noted_out r l m) ∙ remarked_last r l

-- several

pub thinned_append : (l es fs : List Remark) → thinned l (es ++ fs) ≡ thinned (thinned l es) fs
unfolding thinned
thinned_append l [] fs = refl
thinned_append l (e ∷ es) fs = thinned_append (noted e l) es fs

stays : (r : Remark) (l es : List Remark) → remarked r l ≡ true → remarked r (thinned l es) ≡ true
unfolding thinned
stays r l [] e = e
stays r l (q ∷ es) e = stays r (noted q l) es (stays_noted r q l (remarked q l) refl e)

has_head : (r : Remark) (l : List Remark) (q : Remark) (es : List Remark) (b : Bool) → same_remark q r ≡ b
    → (remarked r es ≡ true → remarked r (thinned (noted q l) es) ≡ true) → cond b true (remarked r es) ≡ true → remarked r (thinned (noted q l) es) ≡ true
has_head r l q es true m ih e =
    stays r (noted q l) es (subst (λ (y : Remark). remarked y (noted q l) ≡ true) (same_is q r m) (is_noted q l (remarked q l) refl))
has_head r l q es false m ih e = ih e

has : (r : Remark) (l es : List Remark) → remarked r es ≡ true → remarked r (thinned l es) ≡ true
unfolding thinned remarked
has r l [] e = absurd (false≢true e)
has r l (q ∷ es) e = has_head r l q es (same_remark q r) refl (has r (noted q l) es) e

thinned_noted : (l base : List Remark) (r : Remark) (b : Bool) → remarked r base ≡ b → thinned l (noted r base) ≡ noted r (thinned l base)
unfolding thinned
thinned_noted l base r true m = ap (thinned l) (noted_in r base m) ∙ sym (noted_in r (thinned l base) (has r l base m))
thinned_noted l base r false m = ap (thinned l) (noted_out r base m) ∙ thinned_append l base (r ∷ [])

again : (l base es : List Remark) → thinned l (thinned base es) ≡ thinned (thinned l base) es
unfolding thinned
again l base [] = refl
again l base (r ∷ es) = again l (noted r base) es ∙ ap (λ (m : List Remark). thinned m es) (thinned_noted l base r (remarked r base) refl)

-- what is put behind a list may be thinned before
pub thinned_thin : (l es : List Remark) → thinned l (thin es) ≡ thinned l es
unfolding thin thinned
thinned_thin l es = again l [] es

longer_noted : (r : Remark) (l : List Remark) (b : Bool) → remarked r l ≡ b → length l ≤ length (noted r l)
longer_noted r l true m = subst (λ (k : List Remark). length l ≤ length k) (sym (noted_in r l m)) (le_refl (length l))
longer_noted r l false m = subst (λ (k : List Remark). length l ≤ length k) (sym (noted_out r l m)) (omega (arith, length-append l (r ∷ [])))

pub longer : (l es : List Remark) → length l ≤ length (thinned l es)
unfolding thinned
longer l [] = le_refl (length l)
longer l (r ∷ es) = le_trans (longer_noted r l (remarked r l) refl) (longer (noted r l) es)

-- a round's rows, and what they do not account for, are what there was
pub rejoin : (l es rows : List Remark) (skip next : ℕ) → rows ≡ thin (drop skip (take next es)) → skip ≤ next → next ≤ length es
    → thinned l (rows ++ drop next es) ≡ thinned l (drop skip es)
rejoin l es rows skip next e h g =
    thinned_append l rows (drop next es)
    ∙ ap (λ (m : List Remark). thinned (thinned l m) (drop next es)) e
    ∙ ap (λ (m : List Remark). thinned m (drop next es)) (thinned_thin l (drop skip (take next es)))
    ∙ sym (thinned_append l (drop skip (take next es)) (drop next es))
    ∙ ap (thinned l) (sym (drop-append-le skip (take next es) (drop next es) (omega (arith, length-take-le next es g))) ∙ ap (drop skip) (take-append-drop next es))

-- a search by index

pub found : (l : List Remark) (r : Remark) (k : ℕ) → k < length l → same_remark (get_or l k zero_remark) r ≡ true → remarked r l ≡ true
unfolding remarked
found [] r k h e = absurd (lt_irrefl 0 (omega (arith, h)))
found (q ∷ l) r zero h e = rw e refl
found (q ∷ l) r (suc k) h e = head (same_remark q r) (remarked r l) (found l r k (suc-le-suc_iff.0 h) e)

pub absent : (l : List Remark) (r : Remark) → ((k : ℕ) → k < length l → same_remark (get_or l k zero_remark) r ≡ false) → remarked r l ≡ false
unfolding remarked
absent [] r f = refl
absent (q ∷ l) r f = rw (f zero (zero-lt-suc (length l))) (absent l r (λ k h. f (suc k) (suc-le-suc_iff.1 h)))

-- .. and none is there, where there is none
pub nowhere : (l : List Remark) (r : Remark) → remarked r l ≡ false → (k : ℕ) → k < length l → same_remark (get_or l k zero_remark) r ≡ false
nowhere l r e k h = go (same_remark (get_or l k zero_remark) r) refl
  where
    go : (b : Bool) → same_remark (get_or l k zero_remark) r ≡ b → b ≡ false
    go true q = absurd (false≢true (sym e ∙ found l r k h q))
    go false q = refl

-- a thinned list has no two equal ones

abbrev pub Distinct : List Remark → Type 0
Distinct l = (i j : ℕ) → i < j → j < length l → same_remark (get_or l i zero_remark) (get_or l j zero_remark) ≡ false

distinct_snoc : (l : List Remark) (r : Remark) → Distinct l → remarked r l ≡ false → Distinct (l ++ (r ∷ []))
distinct_snoc l r d e i j h g = go (ltb j (length l)) refl
  where
    go : (b : Bool) → ltb j (length l) ≡ b → same_remark (get_or (l ++ (r ∷ [])) i zero_remark) (get_or (l ++ (r ∷ [])) j zero_remark) ≡ false
    go true q =
        let k : j < length l = ltb-true j (length l) q in
        rw (get_or-append l (r ∷ []) zero_remark i (omega (arith, h, k)), get_or-append l (r ∷ []) zero_remark j k) (d i j h k)
    go false q =
        let k : j ≡ length l = omega (arith, ltb-false j (length l) q, g, length-append l (r ∷ [])) in
        rw (get_or-append l (r ∷ []) zero_remark i (omega (arith, h, k)), k, get_or-append_seam l r [] zero_remark) (nowhere l r e i (omega (arith, h, k)))

distinct_noted : (l : List Remark) (r : Remark) (b : Bool) → remarked r l ≡ b → Distinct l → Distinct (noted r l)
distinct_noted l r true e d = subst Distinct (sym (noted_in r l e)) d
distinct_noted l r false e d = subst Distinct (sym (noted_out r l e)) (distinct_snoc l r d e)

distinct_thinned : (l es : List Remark) → Distinct l → Distinct (thinned l es)
unfolding thinned
distinct_thinned l [] d = d
distinct_thinned l (r ∷ es) d = distinct_thinned (noted r l) es (distinct_noted l r (remarked r l) refl d)

pub distinct_thin : (es : List Remark) → Distinct (thin es)
unfolding thin
distinct_thin es = distinct_thinned [] es (λ i j h g. absurd (lt_irrefl 0 (omega (arith, g))))

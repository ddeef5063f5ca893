-- What the code's laying says of the definition's. Assumes nothing.
use mathlib.Core.Path.{◌≡◌, refl, sym, ap, ◌∙◌}
use mathlib.Core.Bool.{Bool, true, false, cond, ◌&&◌}
use mathlib.Core.List.{List, [], ◌∷◌, ◌++◌, append_assoc}
use Prim.Native.Nat.{ℕ, suc, ◌+◌, ◌-◌, ◌*◌, ◌^◌, ◌≤◌, ◌<◌}
use native.Mathlib.Omega.{arith}
use lib.Dec.{leb, ltb}
use lib.ListN.{length, take, drop, length-append}
use borrow.Author.Tests.{le-leb, lt-leb, leb-true, lt-ltb, le-ltb}
use Rattle.numbers.specs.Words.{Bytes, words, over, zeros, Stands}
use Rattle.numbers.proofs.Bytes.{next, cut_at, length_words}
use Rattle.schema.specs.Defs.{Schema}
use Rattle.layout.specs.State as L
use Rattle.layout.specs.State.{State, done, stop, spot, pointer_to, lies, lay_item, add_item}
use Rattle.layout.proofs.Laying.{laid_in, add_fits, add_none}
use Rattle.area.specs.declared.Round.{Round}
use Rattle.area.specs.declared.Progress.{Progress}
use Rattle.area.specs.declared.Spot.{Spot}
use Rattle.area.specs.Kept.{kept, rows_bytes}
use Rattle.area.specs.Area.{rows_of, encode, stack_at, Rep, with_item, headed}
use Rattle.area.specs.Rows.{blocks_in}
use Rattle.area.specs.Posts.{Safe, gives, refuses, Meets, Finds, blocks_with, Larger, laid_at, moved, lay_in, lay_text_in, LaysItem, LaysText}
use Rattle.area.proofs.Flat as flat
use Rattle.area.proofs.Spots.{length_rows_of, blocks_stand, Filed, inside, behind, filed}
use Rattle.area.proofs.Laying.{area_with, before_items, head_of, head_put, bytes_put, rep_laid}

module _ (alone : Bool) (R : Round) (n : ℕ) (p : Progress) (w : Bytes) (safe : Safe R n p) (name len : ℕ) (r : Spot) (found : Finds alone w p.blocks name len r) where
  -- the spot, in any state that stands in the area
  at_spot : (S : Schema) (s : State) (σ : Bytes) → Rep S R n s σ p w → (r.before ≡ (spot alone name len s.core.blocks).before) × (r.start ≡ (spot alone name len s.core.blocks).start)
  at_spot S s σ q =
      let st : Stands w 0 (rows_of s.core.blocks) =
      rw q.work
      (flat.holds []
      ((16384, rows_bytes (kept R.skip s.events).rows) ∷ (16384, []) ∷ (4 * R.entries, words s.core.structs) ∷ (4 * R.entries, words s.core.enums) ∷ (R.cap, encode s.core.items) ∷ (n - stack_at R, σ) ∷ [])
      32768 (rows_of s.core.blocks) 0 (omega (arith, length_rows_of s.core.blocks, q.blocks, safe.blocks)) refl) in
      let e : blocks_in w 0 p.blocks ≡ s.core.blocks = ap (blocks_in w 0) q.blocks ∙ blocks_stand w 0 s.core.blocks q.small st in
      (found.is.0 ∙ ap (λ (bs : List L.Block). (spot alone name len bs).before) e, found.is.1 ∙ ap (λ (bs : List L.Block). (spot alone name len bs).start) e)

  lies_not : (q : L.Spot) → r.before ≡ q.before → r.start ≡ q.start → (r.before < 4095 → 0xFFFFF < r.start) → lies q ≡ false
  lies_not q e f h = go (leb (suc q.before) 4095) refl
    where
      go : (t : Bool) → leb (suc q.before) 4095 ≡ t → t && leb q.start 0xFFFFF ≡ false
      go false g = refl
      go true g = lt-leb q.start 0xFFFFF (let a : suc q.before ≤ 4095 = leb-true (suc q.before) 4095 g in let b = h (omega arith) in omega arith)

  lies_there : (q : L.Spot) → r.before ≡ q.before → r.start ≡ q.start → r.before < 4095 → r.start ≤ 0xFFFFF → lies q ≡ true
  lies_there q e f h g = rw (le-leb (suc q.before) 4095 (omega arith), le-leb q.start 0xFFFFF (omega arith))

  -- what was done is what the definition on bytes says
  pub none_exact : (r.before < 4095 → 0xFFFFF < r.start) → (top : ℕ) (put : Bytes → Bytes) → (refuses 10 p, w) ≡ laid_at p w name len top put (spot alone name len (blocks_in w 0 p.blocks))
  none_exact h top put = rw (lies_not (spot alone name len (blocks_in w 0 p.blocks)) found.is.0 found.is.1 h)

  pub done_exact : r.before < 4095 → r.start ≤ 0xFFFFF → (top : ℕ) (put : Bytes → Bytes) (w2 : Bytes) → w2 ≡ headed w p.end name r.before r.start len
      → (gives (r.before + 1 + r.start * 4096) (with_item p (blocks_with p.blocks r.before) (p.end + (16 + len)) top), put w2)
      ≡ laid_at p w name len top put (spot alone name len (blocks_in w 0 p.blocks))
  done_exact hb hs top put w2 e =
      let s = spot alone name len (blocks_in w 0 p.blocks) in
      let x : r.before + 1 + r.start * 4096 ≡ suc s.before + s.start * 4096 = omega (arith, found.is.0, found.is.1) in
      rw (lies_there s found.is.0 found.is.1 hb hs, x, e, found.is.0, found.is.1)

  -- no place for it
  pub no_place : {X : Type 0} (S : Schema) (s : State) (τ b : Bytes) (stack : ℕ → Bytes) (fits : ℕ → X → Type 0) → (r.before < 4095 → 0xFFFFF < r.start) → length b ≡ len → Rep S R n s τ p w
      → Meets S R n stack fits (lay_item alone name b s) (refuses 10 p) w
  no_place S s τ b stack fits h e q =
      let a = at_spot S s τ q in
      let z : lay_item alone name b s ≡ stop 10 s.events = add_none alone name b s (rw e (lies_not (spot alone name len s.core.blocks) a.0 a.1 h)) in
      rw z (refl, record { state = s; stack = τ; rep = q; met = refl })

  pub lay_refused : (r.before < 4095 → 0xFFFFF < r.start) → LaysItem alone R n p w name len (refuses 10 p) w
  unfolding lay_in
  lay_refused h = record {
    grew = (refl, refl);
    says = λ S s σ b e q. no_place S s (σ ++ b) b (λ _. σ) (λ a x. a ≡ x) h e q;
    exact = none_exact h (p.top - len) (moved p len);
  }

  count_is : (S : Schema) (s : State) (σ : Bytes) → Rep S R n s σ p w → blocks_with p.blocks r.before ≡ length (spot alone name len s.core.blocks).blocks
  count_is S s σ q = go (spot alone name len s.core.blocks) (filed alone name len s.core.blocks) (at_spot S s σ q).0
    where
      go : (x : L.Spot) → Filed name len s.core.blocks x → r.before ≡ x.before → blocks_with p.blocks r.before ≡ length x.blocks
      go x (inside h l e) f = rw (lt-ltb r.before p.blocks (omega (arith, h, q.blocks))) (q.blocks ∙ sym l)
      go x (behind h z e) f = rw (le-ltb r.before p.blocks (omega (arith, h, q.blocks))) (omega (arith, h, ap length e, length-append s.core.blocks (record { name = name; len = len } ∷ [])))

  -- the numbers with the item
  larger : r.before < 4095 → (top : ℕ) → Larger p len top (with_item p (blocks_with p.blocks r.before) (p.end + (16 + len)) top)
  larger h top =
      record { blocks = few (ltb r.before p.blocks); rows = refl; structs = refl; enums = refl; end = refl; top = refl; charge = refl; seen = refl; next = refl }
    where
      few : (t : Bool) → cond t p.blocks (r.before + 1) ≤ 4095
      few true = safe.blocks
      few false = omega arith

  -- the item's head, with what the code found
  head_at : (S : Schema) (s : State) (σ : Bytes) → (q : Rep S R n s σ p w) → r.before < 4095 → p.end + (16 + len) ≤ stack_at R
      → headed w p.end name r.before r.start len
      ≡ area_with R n s (rows_of (spot alone name len s.core.blocks).blocks) (encode s.core.items ++ head_of R n p w safe S s σ q name len (spot alone name len s.core.blocks)) σ
  head_at S s σ q h l =
      let a = at_spot S s σ q in
      ap (λ (k : ℕ). headed w p.end name k r.start len) a.0 ∙ ap (λ (k : ℕ). headed w p.end name (spot alone name len s.core.blocks).before k len) a.1
      ∙ head_put R n p w safe S s σ q name len (spot alone name len s.core.blocks) (filed alone name len s.core.blocks) (omega (arith, a.0)) l

  -- what the definition answers
  fits_there : (S : Schema) (s : State) (σ b : Bytes) → Rep S R n s σ p w → length b ≡ len → r.before < 4095 → r.start ≤ 0xFFFFF
      → lay_item alone name b s ≡ done (r.before + 1 + r.start * 4096) (laid_in alone name b s)
  fits_there S s σ b q e h g =
      let a = at_spot S s σ q in
      let x : pointer_to (suc (spot alone name len s.core.blocks).before) (spot alone name len s.core.blocks).start ≡ r.before + 1 + r.start * 4096 = omega (arith, a.0, a.1) in
      add_fits alone name b s (rw e (lies_there (spot alone name len s.core.blocks) a.0 a.1 h g))
      ∙ ap (λ (k : ℕ). done (pointer_to (suc (spot alone name k s.core.blocks).before) (spot alone name k s.core.blocks).start) (laid_in alone name b s)) e
      ∙ ap (λ (k : ℕ). done k (laid_in alone name b s)) x

  pub lay_done : name < 256 ^ 4 → len < 2 ^ 31 → r.before < 4095 → r.start ≤ 0xFFFFF → p.end + (16 + len) ≤ stack_at R → stack_at R + len ≤ p.top → p.top ≤ n → (w2 : Bytes)
      → w2 ≡ headed w p.end name r.before r.start len
      → LaysItem alone R n p w name len (gives (r.before + 1 + r.start * 4096) (with_item p (blocks_with p.blocks r.before) (p.end + (16 + len)) (p.top - len)))
      (over (over w2 (p.end + 16) (take len (drop (p.top - len) w2))) (p.top - len) (zeros len))
  unfolding lay_in
  lay_done hn hl hb hs he hf ht w2 e2 = record {
    grew = larger hb (p.top - len);
    says = says;
    exact = done_exact hb hs (p.top - len) (moved p len) w2 e2;
  }
    where
      says : (S : Schema) (s : State) (σ b : Bytes) → length b ≡ len → Rep S R n s (σ ++ b) p w
          → Meets S R n (λ _. σ) (λ a x. a ≡ x) (lay_item alone name b s)
          (gives (r.before + 1 + r.start * 4096) (with_item p (blocks_with p.blocks r.before) (p.end + (16 + len)) (p.top - len)))
          (over (over w2 (p.end + 16) (take len (drop (p.top - len) w2))) (p.top - len) (zeros len))
      says S s σ b e q =
          let m : length (σ ++ b) ≡ length σ + length b = length-append σ b in
          let sp = spot alone name len s.core.blocks in
          let hd = head_of R n p w safe S s (σ ++ b) q name len sp in
          let a2 : w2 ≡ area_with R n s (rows_of sp.blocks) (encode s.core.items ++ hd) (σ ++ b) = e2 ∙ head_at S s (σ ++ b) q hb he in
          let st : Stands w2 (stack_at R) (σ ++ b) =
          rw a2
          (flat.holds (before_items R n p w safe S s (σ ++ b) q name len sp ++ ((R.cap, encode s.core.items ++ hd) ∷ [])) [] (n - stack_at R) (σ ++ b) (stack_at R)
          (omega (arith, q.top)) (omega arith)) in
          let c : take len (drop (p.top - len) w2) ≡ b = rw (← e) (cut_at w2 b (p.top - length b) (next w2 σ b (stack_at R) (p.top - length b) (length σ) refl (omega (arith, q.top)) st)) in
          let a3 : over w2 (p.end + 16) b ≡ area_with R n s (rows_of sp.blocks) (encode s.core.items ++ (hd ++ b)) (σ ++ b) =
          bytes_put R n p w safe S s (σ ++ b) q name len sp b w2 a2 (omega arith) in
          let a4 : over (over w2 (p.end + 16) b) (p.top - len) (zeros len) ≡ area_with R n s (rows_of sp.blocks) (encode s.core.items ++ (hd ++ b)) σ =
          ap (λ (x : Bytes). over x (p.top - len) (zeros len)) a3
          ∙ flat.pop (before_items R n p w safe S s (σ ++ b) q name len sp ++ ((R.cap, encode s.core.items ++ (hd ++ b)) ∷ [])) [] (n - stack_at R) σ b len (p.top - len) e (omega (arith, q.top)) (omega (arith, q.top)) in
          rw (fits_there S s (σ ++ b) b q e hb hs, c) (
            rep_laid R n p w safe S s (σ ++ b) q name len alone b σ (over (over w2 (p.end + 16) b) (p.top - len) (zeros len)) (blocks_with p.blocks r.before) (p.top - len) e hn hl a4
                (count_is S s (σ ++ b) q) (omega (arith, q.top)),
            refl,
          )

-- a text: its bytes are copied, and the closing zero byte stands there already
module _ (R : Round) (n : ℕ) (p : Progress) (w : Bytes) (safe : Safe R n p) (t : Bytes) (r : Spot) (found : Finds false w p.blocks 1 (length t + 1) r) where
  closed : length (t ++ (0 ∷ [])) ≡ length t + 1
  closed = length-append t (0 ∷ [])

  pub text_refused : (r.before < 4095 → 0xFFFFF < r.start) → LaysText R n p w t (refuses 10 p) w
  unfolding lay_text_in
  text_refused h = record {
    grew = (refl, refl);
    says = λ S s σ q. no_place false R n p w safe 1 (length t + 1) r found S s σ (t ++ (0 ∷ [])) (λ _. σ) (λ a x. a ≡ x) h closed q;
    exact = none_exact false R n p w safe 1 (length t + 1) r found h p.top (λ x. over x (p.end + 16) t);
  }

  pub text_done : length t < 2 ^ 30 → r.before < 4095 → r.start ≤ 0xFFFFF → p.end + (16 + (length t + 1)) ≤ stack_at R → (w2 : Bytes)
      → w2 ≡ headed w p.end 1 r.before r.start (length t + 1)
      → LaysText R n p w t (gives (r.before + 1 + r.start * 4096) (with_item p (blocks_with p.blocks r.before) (p.end + (16 + (length t + 1))) p.top)) (over w2 (p.end + 16) t)
  unfolding lay_text_in
  text_done hl hb hs he w2 e2 = record {
    grew = larger false R n p w safe 1 (length t + 1) r found hb p.top;
    says = says;
    exact = done_exact false R n p w safe 1 (length t + 1) r found hb hs p.top (λ x. over x (p.end + 16) t) w2 e2;
  }
    where
      says : (S : Schema) (s : State) (σ : Bytes) → Rep S R n s σ p w
          → Meets S R n (λ _. σ) (λ a x. a ≡ x) (add_item 1 (t ++ (0 ∷ [])) s)
          (gives (r.before + 1 + r.start * 4096) (with_item p (blocks_with p.blocks r.before) (p.end + (16 + (length t + 1))) p.top)) (over w2 (p.end + 16) t)
      says S s σ q =
          let len = length t + 1 in
          let sp = spot false 1 len s.core.blocks in
          let hd = head_of R n p w safe S s σ q 1 len sp in
          let items = encode s.core.items in
          let lh : length hd ≡ 16 = length_words (suc sp.before ∷ sp.start ∷ len ∷ 0 ∷ []) in
          let lt : length (hd ++ t) ≡ 16 + length t = length-append hd t ∙ omega arith in
          let li : length (items ++ (hd ++ t)) ≡ length items + (16 + length t) = length-append items (hd ++ t) ∙ omega arith in
          let a3 : over w2 (p.end + 16) t ≡ area_with R n s (rows_of sp.blocks) (items ++ (hd ++ t)) σ =
          bytes_put R n p w safe S s σ q 1 len sp t w2 (e2 ∙ head_at false R n p w safe 1 len r found S s σ q hb he) (omega arith) in
          let g : (items ++ (hd ++ t)) ++ zeros 1 ≡ items ++ (hd ++ (t ++ (0 ∷ []))) = simp append_assoc in
          let a4 : over w2 (p.end + 16) t ≡ area_with R n s (rows_of sp.blocks) (items ++ (hd ++ (t ++ (0 ∷ [])))) σ =
          a3 ∙ flat.push (before_items R n p w safe S s σ q 1 len sp) ((n - stack_at R, σ) ∷ []) R.cap (items ++ (hd ++ t)) 1 (omega (arith, q.end))
          ∙ ap (λ (x : Bytes). area_with R n s (rows_of sp.blocks) x σ) g in
          rw (fits_there false R n p w safe 1 len r found S s σ (t ++ (0 ∷ [])) q closed hb hs) (
            rep_laid R n p w safe S s σ q 1 len false (t ++ (0 ∷ [])) σ (over w2 (p.end + 16) t) (blocks_with p.blocks r.before) p.top closed (omega arith) (omega arith) a4
                (count_is false R n p w safe 1 len r found S s σ q) q.top,
            refl,
          )

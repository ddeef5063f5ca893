-- What the writers of maps answer. Assumes nothing.
use Rattle.std.specs.Prelude.{Option, Some, None}
use mathlib.Core.Path.{◌≡◌, refl, sym, ap, subst, ◌∙◌}
use mathlib.Core.Bool.{Bool, true, false, not, ◌&&◌, ◌||◌}
use mathlib.Core.List.{List, [], ◌∷◌, ◌++◌}
use Prim.Native.Nat.{ℕ, ◌+◌, ◌-◌, ◌*◌, ◌≤◌, ◌<◌}
use native.Mathlib.Omega.{arith}
use borrow.Author.Tests.{not-true, not-false, eq-eqb, ne_eqb}
use lib.Dec.{leb, eqb}
use lib.ListN.{length, length-append}
use Rattle.numbers.specs.Words.{Bytes, bytes_of, words, over, is_empty}
use Rattle.numbers.specs.Result.{ok}
use Rattle.numbers.proofs.Bytes.{length_bytes}
use Rattle.value.specs.Rows.{Row, rows_from, children_of, value_row, Value}
use Rattle.schema.specs.Defs.{Schema, winning}
use Rattle.schema.specs.Psch.{schema_of}
use Rattle.definitions.specs.declared.members.Member as coded
use Rattle.layout.specs.State.{State, M, ret, bind, if_m, add_item}
use Rattle.layout.specs.Members.{need, leaves, wrong, put_pointer, put_counted, reference_at, low16}
use Rattle.layout.specs.Runs.{Run, run}
use Rattle.layout.specs.Write.{laid_run, map_of, map_member, pairs_of, pair_element}
use Rattle.area.specs.declared.Round.{Round}
use Rattle.area.specs.declared.Progress.{Progress}
use Rattle.area.specs.Area.{stack_at, env_of, Rep}
use Rattle.area.specs.Posts.{Safe, Open, Notes, Ans, gives, refuses}
use Rattle.area.proofs.Over.{length_over, words_one}
use Rattle.area.proofs.Reps.{rep_put}
use Rattle.cells.specs.declared.defs.Def.{Def}
use Rattle.cells.specs.Names.{def_of, member_of}
use Rattle.members.specs.Names.{looked_is}
use Rattle.members.specs.Posts.{Fills, remark_on, any_schema}
use Rattle.members.proofs.Filling.{stays, said}
use Rattle.runs.specs.Posts.{Yields}
use Rattle.choices.specs.Sources.{pair_count}
use Rattle.choices.specs.Posts.{Lodges}
use Rattle.choices.proofs.Meeting.{if_true, if_false, opt_none, opt_some}
use Rattle.choices.proofs.Choosing.{looked_name}
use Rattle.choices.proofs.Lodging.{top_within}
use Rattle.choices.proofs.Embedding.{fit_within, need_fits, need_leaves}
use Rattle.writers.specs.Posts.{Of, Named, deeper, struct_run}
use Rattle.writers.proofs.Inlines.{looked_named}
use Rattle.writers.proofs.Children.{length_pairs, pairs_empty, pairs_some, children_pairs, map_other, map_or_null}
use Rattle.writers.proofs.Filled.{fills_same, with_run, run_refused, run_dropped, run_lodged}

-- what an empty map holds
abbrev pub mark : ℕ
mark = 0x01000000

module _ (T F : Bytes) (R : Round) (left : ℕ) (p : Progress) (w : Bytes) (d : Def) (m : coded.Member) (safe : Safe R (length w) p) (more : Open p) where
  -- a map's pairs
  abbrev pairs : ℕ → ℕ → Schema → Bytes → M Bytes
  pairs first n S buf =
      map_of (env_of T S R) (deeper T R left S) (def_of F d) (member_of m) (reference_at (def_of F d) (low16 m.reference)) (pairs_of (rows_from first (2 * n))) buf

  -- ---- pairs, at least one
  module _ (low : stack_at R + d.size ≤ p.top) (room : m.offset + 24 ≤ d.size) (first n : ℕ) (some' : 0 < n) (h : ℕ) (named : h ≡ reference_at (def_of F d) (low16 m.reference))
      (found : Option Def) (looked : (S : Schema) → schema_of F ≡ ok S → (winning S).struct h ≡ looked_is F found) where
    -- their run, of the definition i
    abbrev run' : Def → Schema → M (Option Run)
    run' i S = struct_run (env_of T S R) (deeper T R left S) (def_of F d) (member_of m) (def_of F i) i.name first n true

    abbrev filed : Schema → Bytes → Run → M Bytes
    filed S buf z = bind (add_item z.block z.bytes) λ q. ret (put_counted buf (m.offset + 8) q n)

    -- the definition is asked for
    asked : (S : Schema) (buf : Bytes) (s : State) → pairs first n S buf s ≡ map_of (env_of T S R) (deeper T R left S) (def_of F d) (member_of m) h (pairs_of (rows_from first (2 * n))) buf s
    asked S buf s = rw named refl

    missing_is : (S : Schema) (buf : Bytes) (s : State) → Of F S → found ≡ None → pairs first n S buf s ≡ leaves (def_of F d) (member_of m) 7 h buf s
    unfolding map_of
    missing_is S buf s o e =
        asked S buf s ∙ if_false (is_empty (pairs_of (rows_from first (2 * n)))) (ret buf) _ s (pairs_some first n (λ z. omega arith))
        ∙ opt_none ((winning S).struct h) (leaves (def_of F d) (member_of m) 7 h buf) _ s (looked S o ∙ ap (looked_is F) e)

    module _ (i : Def) (e : found ≡ Some i) where
      stands : (S : Schema) → Of F S → (winning S).struct h ≡ Some (def_of F i)
      stands S o = looked S o ∙ ap (looked_is F) e

      name_is : (S : Schema) → Of F S → i.name ≡ h
      name_is S o = looked_name F S h i (stands S o)

      known : (S : Schema) → Of F S → Named F i S
      known S o = looked_named F S h i o (stands S o)

      there_is : (S : Schema) (buf : Bytes) (s : State) → Of F S → pairs first n S buf s ≡ with_run (run' i S) buf (filed S buf) s
      unfolding map_of laid_run
      there_is S buf s o =
          asked S buf s ∙ if_false (is_empty (pairs_of (rows_from first (2 * n)))) (ret buf) _ s (pairs_some first n (λ z. omega arith))
          ∙ opt_some ((winning S).struct h) (leaves (def_of F d) (member_of m) 7 h buf) _ (def_of F i) s (stands S o)
          ∙ ap (λ (k : ℕ). with_run (run (env_of T S R) (def_of F i).size k (pair_element (env_of T S R) (deeper T R left S) (def_of F i)) (pairs_of (rows_from first (2 * n)))) buf
          (λ y. bind (add_item y.block y.bytes) λ q. ret (put_counted buf (m.offset + 8) q (length (pairs_of (rows_from first (2 * n)))))) s) (sym (name_is S o))
          ∙ ap (λ (k : ℕ). with_run (run' i S) buf (λ y. bind (add_item y.block y.bytes) λ q. ret (put_counted buf (m.offset + 8) q k)) s) (length_pairs first n)

      module _ (r : Ans (Option ℕ)) (w' : Bytes) (g : Yields (Named F i) R (length w) p w 0 (run' i) r w') where
        -- their run was refused
        pub pairs_refused : (k : ℕ) (q : Progress) → r ≡ refuses k q → Fills (Of F) R (length w) p w d.size (pairs first n) (refuses k q) w'
        pairs_refused k q j = fills_same known (λ S o buf s. there_is S buf s o) (run_refused (Named F i) R (length w) p w 0 d.size (run' i) filed r w' g k q j)

        -- .. dropped
        pub pairs_dropped : (q : Progress) → r ≡ gives None q → Fills (Of F) R (length w) p w d.size (pairs first n) (gives (tt {0}) q) w'
        pairs_dropped q j = fills_same known (λ S o buf s. there_is S buf s o) (run_dropped (Named F i) R (length w) p w 0 d.size (run' i) filed r w' g q j (omega arith))

        -- .. filed
        pub pairs_kept : (block : ℕ) (q : Progress) (u : Ans (Unit {0})) (w'' : Bytes) → r ≡ gives (Some block) q → length w' ≡ length w
            → Lodges R (length w') q w' block (q.top - p.top) (p.top - d.size + m.offset + 8) n u w'' → Fills (Of F) R (length w) p w d.size (pairs first n) u w''
        pairs_kept block q u w'' j l x =
            let a : p.top - d.size + m.offset + 8 ≡ p.top - d.size + (m.offset + 8) = omega arith in
            fills_same known (λ S o buf s. there_is S buf s o)
            (run_lodged (Named F i) R (length w) p w 0 d.size (run' i) filed r w' g block n (m.offset + 8) q u w'' j (omega arith) l (λ S buf y s. refl) low
            (subst (λ (at : ℕ). Lodges R (length w') q w' block (q.top - p.top) at n u w'') a x))

    -- remark 7
    pub pairs_missing : (q : Progress) (w' : Bytes) → found ≡ None → Notes R (length w) p w (remark_on d m 7 h) q w' → Fills (Of F) R (length w) p w d.size (pairs first n) (gives (tt {0}) q) w'
    pairs_missing q w' e x = fills_same (λ S o. o) (λ S o buf s. missing_is S buf s o e) (said R (length w) p w (Of F) d.size F d m 7 h q w' safe more x)

  -- ---- a map
  module _ (v : Value) where
    abbrev map : Schema → Bytes → M Bytes
    map S buf = map_member (env_of T S R) (deeper T R left S) (def_of F d) (member_of m) v buf

    subtype_is : (S : Schema) (buf : Bytes) (s : State) → (m.subtype ≡ 1 → ⊥) → map S buf s ≡ leaves (def_of F d) (member_of m) 6 m.subtype buf s
    unfolding map_member
    subtype_is S buf s e = if_false (eqb m.subtype 1) _ (leaves (def_of F d) (member_of m) 6 m.subtype buf) s (ne_eqb m.subtype 1 e)

    -- remark 6
    pub map_subtype : (q : Progress) (w' : Bytes) → (m.subtype ≡ 1 → ⊥) → Notes R (length w) p w (remark_on d m 6 m.subtype) q w' → Fills (Of F) R (length w) p w d.size map (gives (tt {0}) q) w'
    map_subtype q w' e x = fills_same (λ S o. o) (λ S o buf s. subtype_is S buf s e) (said R (length w) p w (Of F) d.size F d m 6 m.subtype q w' safe more x)

    module _ (one : m.subtype ≡ 1) (fit : Bool) (e : fit ≡ leb (m.offset + 24) d.size) where
      -- a map that fits
      abbrev body : Schema → Bytes → Bool → M Bytes
      body S buf b =
          if_m b (map_of (env_of T S R) (deeper T R left S) (def_of F d) (member_of m) (reference_at (def_of F d) (low16 m.reference)) (pairs_of (children_of (value_row T v))) (over buf m.offset (words (mark ∷ []))))
          (wrong (def_of F d) (member_of m) v buf)

      abbrev kind : ℕ
      kind = (value_row T v).kind

      needs_is : (S : Schema) (buf : Bytes) (s : State) → map S buf s ≡ need (def_of F d) (member_of m) 24 buf (body S buf (eqb kind 20 || eqb kind 0)) s
      unfolding map_member
      needs_is S buf s = if_true (eqb m.subtype 1) _ (leaves (def_of F d) (member_of m) 6 m.subtype buf) s (eq-eqb m.subtype 1 one)

      -- it does not fit
      pub map_wide : (q : Progress) (w' : Bytes) → not fit ≡ true → Notes R (length w) p w (remark_on d m 1 d.size) q w' → Fills (Of F) R (length w) p w d.size map (gives (tt {0}) q) w'
      map_wide q w' t x =
          fills_same (λ S o. o) (λ S o buf s. needs_is S buf s ∙ need_leaves F d m 24 buf (body S buf (eqb kind 20 || eqb kind 0)) s (sym e ∙ not-true fit t))
          (said R (length w) p w (Of F) d.size F d m 1 d.size q w' safe more x)

      module _ (t : not fit ≡ false) (y : Row) (read : y ≡ value_row T v) where
        fits_is : (S : Schema) (buf : Bytes) (s : State) → map S buf s ≡ body S buf (eqb kind 20 || eqb kind 0) s
        fits_is S buf s = needs_is S buf s ∙ need_fits F d m 24 buf (body S buf (eqb kind 20 || eqb kind 0)) s (sym e ∙ not-false fit t)

        same_kind : eqb kind 20 || eqb kind 0 ≡ eqb y.kind 20 || eqb y.kind 0
        same_kind = ap (λ (a : Row). eqb a.kind 20 || eqb a.kind 0) (sym read)

        -- remark 2
        pub map_wrong : (r : Ans (Unit {0})) (w' : Bytes) → not (eqb y.kind 20) && not (eqb y.kind 0) ≡ true
            → ((F : Bytes) → Fills any_schema R (length w) p w d.size (λ S buf. wrong (def_of F d) (member_of m) v buf) r w') → Fills (Of F) R (length w) p w d.size map r w'
        map_wrong r w' a x =
            fills_same (λ S o. tt) (λ S o buf s. fits_is S buf s ∙ if_false (eqb kind 20 || eqb kind 0) _ (wrong (def_of F d) (member_of m) v buf) s (same_kind ∙ map_other y.kind a)) (x F)

        module _ (a : not (eqb y.kind 20) && not (eqb y.kind 0) ≡ false) (n : ℕ) (counted : n ≡ pair_count y) (low : stack_at R + d.size ≤ p.top) (w' : Bytes)
            (put : w' ≡ put_pointer w (p.top - d.size + m.offset) mark) where
          children : children_of (value_row T v) ≡ rows_from y.a (2 * n)
          children = rw (← read, counted) (children_pairs y (map_or_null y.kind a))

          marked_is : (S : Schema) (buf : Bytes) (s : State) → map S buf s ≡ pairs y.a n S (over buf m.offset (words (mark ∷ []))) s
          marked_is S buf s =
              fits_is S buf s
              ∙ if_true (eqb kind 20 || eqb kind 0)
              (map_of (env_of T S R) (deeper T R left S) (def_of F d) (member_of m) (reference_at (def_of F d) (low16 m.reference)) (pairs_of (children_of (value_row T v))) (over buf m.offset (words (mark ∷ []))))
              (wrong (def_of F d) (member_of m) v buf) s (same_kind ∙ map_or_null y.kind a)
              ∙ ap (λ (rs : List ℕ). map_of (env_of T S R) (deeper T R left S) (def_of F d) (member_of m) (reference_at (def_of F d) (low16 m.reference)) (pairs_of rs) (over buf m.offset (words (mark ∷ []))) s) children

          -- the area with the mark
          marked : (S : Schema) (s : State) (σ buf : Bytes) → length buf ≡ d.size → Rep S R (length w) s (σ ++ buf) p w
              → Rep S R (length w) s (σ ++ over buf m.offset (words (mark ∷ []))) p w' × (length (over buf m.offset (words (mark ∷ []))) ≡ d.size)
          unfolding put_pointer
          marked S s σ buf l rep =
              let k : m.offset + 24 ≤ d.size = fit_within fit (m.offset + 24) d.size e t in
              let x : length (σ ++ buf) ≡ length σ + length buf = length-append σ buf in
              let z : length (bytes_of 4 mark) ≡ 4 = length_bytes 4 mark in
              rw (words_one mark, put) (
                rep_put S R (length w) σ buf (bytes_of 4 mark) m.offset (p.top - d.size + m.offset) rep (top_within R (length w) p safe) (omega arith) (omega (arith, rep.top)),
                length_over buf m.offset (bytes_of 4 mark) (omega arith) ∙ l,
              )

          -- it has pairs
          pub map_pairs : (r : Ans (Unit {0})) (w'' : Bytes) → length w' ≡ length w → Fills (Of F) R (length w') p w' d.size (pairs y.a n) r w'' → Fills (Of F) R (length w) p w d.size map r w''
          map_pairs r w'' l x = record {
            grew = fills.grew;
            says = λ S o s σ buf k rep.
                let q = marked S s σ buf k rep in
                rw (marked_is S buf s) (fills.says S o s σ (over buf m.offset (words (mark ∷ []))) q.1 q.0);
          }
            where
              fills : Fills (Of F) R (length w) p w' d.size (pairs y.a n) r w''
              fills = subst (λ (k : ℕ). Fills (Of F) R k p w' d.size (pairs y.a n) r w'') l x

          none_is : (S : Schema) (buf : Bytes) (s : State) → n ≡ 0 → pairs y.a n S buf s ≡ ret buf s
          unfolding map_of
          none_is S buf s z = if_true (is_empty (pairs_of (rows_from y.a (2 * n)))) (ret buf) _ s (pairs_empty y.a n z)

          -- it has none
          pub map_empty : length w' ≡ length w → n ≡ 0 → Fills (Of F) R (length w) p w d.size map (gives (tt {0}) p) w'
          map_empty l z =
              map_pairs (gives (tt {0}) p) w' l
              (fills_same (λ S o. o) (λ S o buf s. none_is S buf s z)
              (stays R (length w') p w' (Of F) d.size (subst (λ (k : ℕ). Safe R k p) (sym l) safe)))

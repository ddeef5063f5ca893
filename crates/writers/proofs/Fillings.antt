-- What the writers of arrays answer. Assumes nothing.
use Rattle.std.specs.Prelude.{is_some, Some, None, option_map, Option}
use mathlib.Core.Path.{◌≡◌, refl, sym, ap, ◌∙◌}
use mathlib.Core.Bool.{Bool, true, false, not}
use mathlib.Core.List.{List}
use Prim.Native.Nat.{ℕ, min, ◌+◌, ◌-◌}
use native.Mathlib.Omega.{arith}
use borrow.Author.Tests.{not-true, not-false}
use lib.Dec.{leb}
use lib.ListN.{length}
use Rattle.numbers.specs.Words.{Bytes, over, is_empty}
use Rattle.value.specs.Rows.{Row, rows_from, children_of, value_row, Value}
use Rattle.schema.specs.Defs.{Schema}
use Rattle.definitions.specs.declared.members.Member as coded
use Rattle.layout.specs.Kinds
use Rattle.layout.specs.State.{State, M, ret, bind, if_m, add_item}
use Rattle.layout.specs.Members.{need, leaves, wrong, put_counted, high16}
use Rattle.layout.specs.Runs.{Run, element_run}
use Rattle.layout.specs.Write.{by_pointer, pointed_array, embedded_array, array_of, array_member, array_info, is_array_value, laid_run}
use Rattle.area.specs.declared.Round.{Round}
use Rattle.area.specs.declared.Progress.{Progress}
use Rattle.area.specs.Area.{env_of}
use Rattle.area.specs.Posts.{Safe, Open, Notes, Ans, gives, refuses}
use Rattle.cells.specs.declared.defs.Def.{Def}
use Rattle.cells.specs.Names.{def_of, member_of}
use Rattle.members.specs.Posts.{Fills, Buffer, remark_on, any_schema}
use Rattle.members.proofs.Filling.{stays, said}
use Rattle.runs.specs.Posts.{Yields}
use Rattle.runs.proofs.Loops.{length_rows_from}
use Rattle.choices.specs.Sources.{item_count}
use Rattle.choices.specs.Posts.{Lodges, Embeds}
use Rattle.choices.proofs.Meeting.{if_true, if_false, opt_none, opt_some}
use Rattle.choices.proofs.Embedding.{fit_within, need_fits, need_leaves}
use Rattle.writers.specs.Posts.{Of, deeper}
use Rattle.writers.proofs.Children.{take_min, rows_none, rows_some, children_items}
use Rattle.writers.proofs.Filled.{fills_same, with_run, run_refused, run_dropped, run_lodged, run_embedded}

module _ (T F : Bytes) (R : Round) (left : ℕ) (p : Progress) (w : Bytes) (d : Def) (m : coded.Member) (safe : Safe R (length w) p) (more : Open p) (buffer : Buffer R p d.size) where
  -- ---- an array by pointer, and inline
  module _ (x : coded.Member) (first count : ℕ) where
    -- its run
    abbrev items : Schema → M (Option Run)
    items S = element_run (env_of T S R) (deeper T R left S) (def_of F d) (member_of m) (member_of x) (Kinds.kind_of x.kind) (rows_from first count)

    abbrev by_pointer' : Schema → Bytes → M Bytes
    by_pointer' S buf = pointed_array (env_of T S R) (deeper T R left S) (def_of F d) (member_of m) (member_of x) (rows_from first count) buf

    abbrev filed : Schema → Bytes → Run → M Bytes
    filed S buf z = bind (add_item z.block z.bytes) λ q. ret (put_counted buf m.offset q count)

    abbrev inline : Schema → Bytes → M Bytes
    inline S buf = embedded_array (env_of T S R) (deeper T R left S) (def_of F d) (member_of m) (member_of x) (rows_from first count) buf

    abbrev moved : Schema → Bytes → Run → M Bytes
    moved S buf z = need (def_of F d) (member_of m) (length z.bytes) buf (ret (over buf m.offset z.bytes))

    inline_run : (S : Schema) (buf : Bytes) (s : State) → inline S buf s ≡ with_run (items S) buf (moved S buf) s
    unfolding embedded_array
    inline_run S buf s = refl

    module _ (fit : Bool) (e : fit ≡ leb (m.offset + 16) d.size) where
      wide_is : (S : Schema) (buf : Bytes) (s : State) → not fit ≡ true → by_pointer' S buf s ≡ leaves (def_of F d) (member_of m) 1 d.size buf s
      unfolding pointed_array
      wide_is S buf s t = need_leaves F d m 16 buf _ s (sym e ∙ not-true fit t)

      fits_is : (S : Schema) (buf : Bytes) (s : State) → not fit ≡ false → by_pointer' S buf s ≡ if_m (is_empty (rows_from first count)) (ret buf) (laid_run (items S) (length (rows_from first count)) m.offset buf) s
      unfolding pointed_array
      fits_is S buf s t = need_fits F d m 16 buf _ s (sym e ∙ not-false fit t)

      empty_is : (S : Schema) (buf : Bytes) (s : State) → not fit ≡ false → count ≡ 0 → by_pointer' S buf s ≡ ret buf s
      empty_is S buf s t z = fits_is S buf s t ∙ if_true (is_empty (rows_from first count)) (ret buf) _ s (rows_none first count z)

      some_is : (S : Schema) (buf : Bytes) (s : State) → not fit ≡ false → (count ≡ 0 → ⊥) → by_pointer' S buf s ≡ with_run (items S) buf (filed S buf) s
      unfolding laid_run
      some_is S buf s t z =
          fits_is S buf s t ∙ if_false (is_empty (rows_from first count)) (ret buf) _ s (rows_some first count z)
          ∙ ap (λ (k : ℕ). with_run (items S) buf (λ y. bind (add_item y.block y.bytes) λ q. ret (put_counted buf m.offset q k)) s) (length_rows_from first count)

      -- it does not fit
      pub laid_wide : (q : Progress) (w' : Bytes) → not fit ≡ true → Notes R (length w) p w (remark_on d m 1 d.size) q w' → Fills (Of F) R (length w) p w d.size by_pointer' (gives (tt {0}) q) w'
      laid_wide q w' t h = fills_same (λ S o. o) (λ S o buf s. wide_is S buf s t) (said R (length w) p w (Of F) d.size F d m 1 d.size q w' safe more h)

      -- it has no items
      pub laid_empty : not fit ≡ false → count ≡ 0 → Fills (Of F) R (length w) p w d.size by_pointer' (gives (tt {0}) p) w
      laid_empty t z = fills_same (λ S o. o) (λ S o buf s. empty_is S buf s t z) (stays R (length w) p w (Of F) d.size safe)

      module _ (t : not fit ≡ false) (z : count ≡ 0 → ⊥) (r : Ans (Option ℕ)) (w' : Bytes) (h : Yields (Of F) R (length w) p w 1 items r w') where
        -- its run was refused
        pub laid_refused : (k : ℕ) (q : Progress) → r ≡ refuses k q → Fills (Of F) R (length w) p w d.size by_pointer' (refuses k q) w'
        laid_refused k q i = fills_same (λ S o. o) (λ S o buf s. some_is S buf s t z) (run_refused (Of F) R (length w) p w 1 d.size items filed r w' h k q i)

        -- .. dropped
        pub laid_dropped : (q : Progress) → r ≡ gives None q → Fills (Of F) R (length w) p w d.size by_pointer' (gives (tt {0}) q) w'
        laid_dropped q i = fills_same (λ S o. o) (λ S o buf s. some_is S buf s t z) (run_dropped (Of F) R (length w) p w 1 d.size items filed r w' h q i (omega arith))

        -- .. filed
        pub laid_kept : (block : ℕ) (q : Progress) (u : Ans (Unit {0})) (w'' : Bytes) → r ≡ gives (Some block) q → length w' ≡ length w
            → Lodges R (length w') q w' block (q.top - p.top) (p.top - d.size + m.offset) count u w'' → Fills (Of F) R (length w) p w d.size by_pointer' u w''
        laid_kept block q u w'' i l g =
            let v = fit_within fit (m.offset + 16) d.size e t in
            fills_same (λ S o. o) (λ S o buf s. some_is S buf s t z)
            (run_lodged (Of F) R (length w) p w 1 d.size items filed r w' h block count m.offset q u w'' i (omega arith) l (λ S buf y s. refl) buffer.low g)

    module _ (r : Ans (Option ℕ)) (w' : Bytes) (h : Yields (Of F) R (length w) p w 1 items r w') where
      -- inline: its run was refused
      pub embedded_refused : (k : ℕ) (q : Progress) → r ≡ refuses k q → Fills (Of F) R (length w) p w d.size inline (refuses k q) w'
      embedded_refused k q i = fills_same (λ S o. o) (λ S o buf s. inline_run S buf s) (run_refused (Of F) R (length w) p w 1 d.size items moved r w' h k q i)

      -- .. dropped
      pub embedded_dropped : (o : Option ℕ) (q : Progress) → r ≡ gives o q → is_some o ≡ false → Fills (Of F) R (length w) p w d.size inline (gives (tt {0}) q) w'
      embedded_dropped None q i e = fills_same (λ S o. o) (λ S o buf s. inline_run S buf s) (run_dropped (Of F) R (length w) p w 1 d.size items moved r w' h q i (omega arith))
      embedded_dropped (Some block) q i e = cc

      -- .. moved
      pub embedded_kept : (o : Option ℕ) (q : Progress) (u : Ans (Unit {0})) (w'' : Bytes) → r ≡ gives o q → is_some o ≡ true → length w' ≡ length w → Embeds R (length w') p.top q w' d m u w''
          → Fills (Of F) R (length w) p w d.size inline u w''
      embedded_kept (Some block) q u w'' i e l g =
          fills_same (λ S o. o) (λ S o buf s. inline_run S buf s) (run_embedded (Of F) R (length w) p w 1 d.size items moved r w' h F d m block q u w'' i l refl (λ S buf y s. refl) g)
      embedded_kept None q u w'' i e l g = cc

  -- ---- an array
  module _ (v : Value) (info : Option coded.Member) (known : option_map member_of info ≡ array_info (def_of F d) (member_of m)) where
    abbrev array : Schema → Bytes → M Bytes
    array S buf = array_member (env_of T S R) (deeper T R left S) (def_of F d) (member_of m) v buf

    -- what an array is made of, where its descriptor is there
    abbrev described : Schema → coded.Member → Bool → List ℕ → Bytes → M Bytes
    described S x b rs buf = if_m b (array_of (env_of T S R) (deeper T R left S) (def_of F d) (member_of m) (member_of x) rs buf) (wrong (def_of F d) (member_of m) v buf)

    none_is : (S : Schema) (buf : Bytes) (s : State) → info ≡ None → array S buf s ≡ leaves (def_of F d) (member_of m) 5 0 buf s
    unfolding array_member
    none_is S buf s i = opt_none (array_info (def_of F d) (member_of m)) (leaves (def_of F d) (member_of m) 5 0 buf) _ s (sym known ∙ ap (option_map member_of) i)

    there_is : (S : Schema) (buf : Bytes) (s : State) (x : coded.Member) → info ≡ Some x
        → array S buf s ≡ described S x (is_array_value (env_of T S R) (value_row T v)) (children_of (value_row T v)) buf s
    unfolding array_member
    there_is S buf s x i = opt_some (array_info (def_of F d) (member_of m)) (leaves (def_of F d) (member_of m) 5 0 buf) _ (member_of x) s (sym known ∙ ap (option_map member_of) i)

    -- remark 5
    pub array_none : (q : Progress) (w' : Bytes) → info ≡ None → Notes R (length w) p w (remark_on d m 5 0) q w' → Fills (Of F) R (length w) p w d.size array (gives (tt {0}) q) w'
    array_none q w' i h = fills_same (λ S o. o) (λ S o buf s. none_is S buf s i) (said R (length w) p w (Of F) d.size F d m 5 0 q w' safe more h)

    module _ (x : coded.Member) (i : info ≡ Some x) (y : Row) (read : y ≡ value_row T v) (is : Bool) (judged : (S : Schema) (R : Round) → is ≡ is_array_value (env_of T S R) y) where
      judge : (S : Schema) → is_array_value (env_of T S R) (value_row T v) ≡ is
      judge S = ap (λ (a : Row). is_array_value (env_of T S R) a) (sym read) ∙ sym (judged S R)

      -- remark 2
      pub array_wrong : (r : Ans (Unit {0})) (w' : Bytes) → not is ≡ true → ((F : Bytes) → Fills any_schema R (length w) p w d.size (λ S buf. wrong (def_of F d) (member_of m) v buf) r w')
          → Fills (Of F) R (length w) p w d.size array r w'
      array_wrong r w' t h =
          fills_same (λ S o. tt)
          (λ S o buf s. there_is S buf s x i ∙ if_false _ _ (wrong (def_of F d) (member_of m) v buf) s (judge S ∙ not-true is t)) (h F)

      module _ (t : not is ≡ false) (n : ℕ) (counted : n ≡ item_count y) (aimed : Bool) (aims : aimed ≡ by_pointer m.subtype x.subtype) where
        children : (S : Schema) → children_of (value_row T v) ≡ rows_from y.a n
        children S = rw (← read) (children_items (env_of T S R) y (sym (judged S R) ∙ not-false is t) ∙ ap (rows_from y.a) (sym counted))

        array_is : (S : Schema) (buf : Bytes) (s : State)
            → array S buf s ≡ array_of (env_of T S R) (deeper T R left S) (def_of F d) (member_of m) (member_of x) (rows_from y.a n) buf s
        array_is S buf s =
            there_is S buf s x i
            ∙ if_true _ (array_of (env_of T S R) (deeper T R left S) (def_of F d) (member_of m) (member_of x) (children_of (value_row T v)) buf) _ s (judge S ∙ not-false is t)
            ∙ ap (λ (rs : List ℕ). array_of (env_of T S R) (deeper T R left S) (def_of F d) (member_of m) (member_of x) rs buf s) (children S)

        pointed_is_law : (S : Schema) (buf : Bytes) (s : State) → aimed ≡ true → array S buf s ≡ by_pointer' x y.a n S buf s
        unfolding array_of
        pointed_is_law S buf s b = array_is S buf s ∙ if_true _ (by_pointer' x y.a n S buf) _ s (sym aims ∙ b)

        embedded_is : (S : Schema) (buf : Bytes) (s : State) (k : ℕ) → aimed ≡ false → k ≡ min n (high16 m.reference) → array S buf s ≡ inline x y.a k S buf s
        unfolding array_of
        embedded_is S buf s k b e =
            array_is S buf s ∙ if_false _ (by_pointer' x y.a n S buf) _ s (sym aims ∙ b)
            ∙ ap (λ (rs : List ℕ). embedded_array (env_of T S R) (deeper T R left S) (def_of F d) (member_of m) (member_of x) rs buf s)
            (take_min y.a n (high16 m.reference) ∙ ap (rows_from y.a) (sym e))

        -- by pointer
        pub array_pointed : (r : Ans (Unit {0})) (w' : Bytes) → aimed ≡ true → Fills (Of F) R (length w) p w d.size (by_pointer' x y.a n) r w' → Fills (Of F) R (length w) p w d.size array r w'
        array_pointed r w' b h = fills_same (λ S o. o) (λ S o buf s. pointed_is_law S buf s b) h

        -- inline
        pub array_embedded : (k half : ℕ) (r : Ans (Unit {0})) (w' : Bytes) → aimed ≡ false → half ≡ high16 m.reference → k ≡ min n half
            → Fills (Of F) R (length w) p w d.size (inline x y.a k) r w' → Fills (Of F) R (length w) p w d.size array r w'
        array_embedded k half r w' b e f h = fills_same (λ S o. o) (λ S o buf s. embedded_is S buf s k b (f ∙ ap (min n) e)) h

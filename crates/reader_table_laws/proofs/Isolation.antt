-- What a technician is told, and what their buffers hold, follows from what they ask, what the buffers held at first and the answers of their
-- openings alone: `replay` is that function. So two histories that agree in these are the same to them.
use Rattle.std.specs.Prelude.{◌≡◌, refl, Bool, true, false, cond, List, [], ◌∷◌, map, ℕ, eqb}
use Rattle.std.proofs.Common.{sym, ap, ap₂, ◌∙◌, subst, eqb-true}
use Rattle.std.proofs.Math.Option.{Option, none, some}
use Rattle.profile.specs.Profile.{profile_numbered}
use Rattle.reader.specs.declared.Reader.{Reader}
use Rattle.recovery.specs.Calls.{feed, done}
use Rattle.refinement.specs.Runs.{RunCall, run, one}
use Rattle.reader_table.specs.declared.ReaderTable.{ReaderTable}
use Rattle.technician.specs.Technician.{is_technician}
use Rattle.reader_table.specs.Table.{empty_table, Placing, open_place_of, call_place_of}
use Rattle.reader_table_laws.specs.History.{TableReply, to_read, open_reply, call_reply, TableServed, serve, told_to, openings_in}
use Rattle.reader_table_laws.specs.Lending.{Buffers, but, LendingRequest, request_open, request_feed, request_run, request_finish, request_close, LendingCall, lends, request_in_full, buffers_after, history_in_full, buffers_left, requests_of, told_from, LendsOwn, OwnBuffers, SameBuffers, Isolated}
use Rattle.reader_table_laws.specs.Places.{view}
use Rattle.reader_table_laws.specs.Views.{other_keeps, told_held, kept_held, told_closed, kept_closed, kept_opened, opens, reads, closes, strange, stranger}

-- what a technician is told, and the buffers at the end
record Part : Type 0 where
  told : List TableReply
  buffers : Buffers

abbrev part : List TableReply → Buffers → Part
part ts s = record { told = ts; buffers = s }

abbrev in_front : TableReply → Part → Part
in_front x p = record { told = x ∷ p.told; buffers = p.buffers }

-- their part of a history, of what they hold, what their buffers hold, what they ask, and what their openings are answered
abbrev replay : (ℕ → Option Reader) → Buffers → List LendingRequest → List Placing → Part
replay v s [] os = part [] s
replay v s (request_open n ∷ qs) [] = part [] s
replay v s (request_open n ∷ qs) (o ∷ os) = in_front (open_reply o) (replay (kept_opened v (profile_numbered n) o) s qs os)
replay v s (request_feed i n b ∷ qs) os =
    let c : RunCall = one (feed n (s b)) in
    in_front (told_held (v i) c) (replay (kept_held v i c (v i)) (buffers_after s (some b) (told_held (v i) c)) qs os)
replay v s (request_run i w b ∷ qs) os =
    let c : RunCall = run w (s b) in
    in_front (told_held (v i) c) (replay (kept_held v i c (v i)) (buffers_after s (some b) (told_held (v i) c)) qs os)
replay v s (request_finish i ∷ qs) os = in_front (told_held (v i) (one done)) (replay (kept_held v i (one done) (v i)) s qs os)
replay v s (request_close i ∷ qs) os = in_front (told_closed (v i)) (replay (kept_closed v i (v i)) s qs os)

-- Their own buffers.

-- every other taken as empty
abbrev only : (ℕ → Bool) → Buffers → Buffers
only mine s b = cond (mine b) (s b) []

module _ (mine : ℕ → Bool) where
  -- one of theirs holds the same there
  own_contents : (s : Buffers) (b : ℕ) → mine b ≡ true → s b ≡ only mine s b
  own_contents s b e = sym (ap (λ (x : Bool). cond x (s b) []) e)

  -- one of theirs that is changed, and one of another's
  only_own : (s : Buffers) (b : ℕ) (w : List ℕ) → mine b ≡ true → only mine (but s b w) ≡ but (only mine s) b w
  only_own s b w e = λ k a. at a (eqb a b) refl k
    where
      at : (a : ℕ) (x : Bool) → eqb a b ≡ x → cond (mine a) (cond x w (s a)) [] ≡ cond x w (only mine s a)
      at a true f = ap (λ (y : Bool). cond y w []) (ap mine (eqb-true a b f) ∙ e)
      at a false f = refl

  only_others : (s : Buffers) (b : ℕ) (w : List ℕ) → mine b ≡ false → only mine (but s b w) ≡ only mine s
  only_others s b w e = λ k a. at a (eqb a b) refl k
    where
      at : (a : ℕ) (x : Bool) → eqb a b ≡ x → cond (mine a) (cond x w (s a)) [] ≡ only mine s a
      at a true f = let q = ap mine (eqb-true a b f) ∙ e in ap (λ (y : Bool). cond y w []) q ∙ sym (ap (λ (y : Bool). cond y (s a) []) q)
      at a false f = refl

  after_own : (s : Buffers) (l : Option ℕ) (x : TableReply) → LendsOwn mine true l → only mine (buffers_after s l x) ≡ buffers_after (only mine s) l x
  after_own s none x e = refl
  after_own s (some b) (open_reply o) e = refl
  after_own s (some b) (call_reply a n w) e = only_own s b w e

  after_others : (s : Buffers) (l : Option ℕ) (x : TableReply) → LendsOwn mine false l → only mine (buffers_after s l x) ≡ only mine s
  after_others s none x e = refl
  after_others s (some b) (open_reply o) e = refl
  after_others s (some b) (call_reply a n w) e = only_others s b w e

  same_only : (s z : Buffers) → SameBuffers mine s z → only mine s ≡ only mine z
  same_only s z e = λ k b. at b (mine b) refl k
    where
      at : (b : ℕ) (x : Bool) → mine b ≡ x → cond x (s b) [] ≡ cond x (z b) []
      at b true f = e b f
      at b false f = refl

  only_same : (s z : Buffers) → only mine s ≡ only mine z → SameBuffers mine s z
  only_same s z e b f = own_contents s b f ∙ ap (λ (u : Buffers). u b) e ∙ sym (own_contents z b f)

module _ (mine : ℕ → Bool) (who : ℕ) (h : is_technician who ≡ true) where
  -- a call that lends the buffer b, and what comes later
  abbrev heard : ℕ → ℕ → RunCall → ReaderTable → Buffers → List LendingRequest → List TableReply → Part
  heard i b c t s qs ts =
      let x : TableReply = told_held (view who t i) c in
      in_front x (replay (kept_held (view who t) i c (view who t i)) (buffers_after (only mine s) (some b) x) qs (openings_in ts))

  -- a feed, run or finish of their own, and what comes later
  own_read : (i : ℕ) (c : RunCall) (l : Option ℕ) → LendsOwn mine true l
      → (t : ReaderTable) (s : Buffers) (qs : List LendingRequest) (ts : List TableReply) (f : Buffers)
      → part ts f ≡ replay (view who (call_place_of t who i c).table) (only mine (buffers_after s l (serve t who (to_read i c)).told)) qs (openings_in ts)
      → part ((serve t who (to_read i c)).told ∷ ts) f
      ≡ in_front (told_held (view who t i) c)
      (replay (kept_held (view who t) i c (view who t i)) (buffers_after (only mine s) l (told_held (view who t i) c)) qs (openings_in ts))
  own_read i c l own t s qs ts f e =
      let k = reads who h t i c in
      let x : TableReply = told_held (view who t i) c in
      ap (λ (y : TableReply). part (y ∷ ts) f) k.0
      ∙ ap (in_front x)
      (e
      ∙ ap₂ (λ (v : ℕ → Option Reader) (u : Buffers). replay v u qs (openings_in ts)) k.1
      (after_own mine s l (serve t who (to_read i c)).told own ∙ ap (buffers_after (only mine s) l) k.0))

  -- one that lends a buffer
  own_lent : (i b : ℕ) (c : List ℕ → RunCall) → mine b ≡ true → (t : ReaderTable) (s : Buffers) (qs : List LendingRequest) (ts : List TableReply) (f : Buffers)
      → part ts f
      ≡ replay (view who (call_place_of t who i (c (s b))).table) (only mine (buffers_after s (some b) (serve t who (to_read i (c (s b)))).told)) qs (openings_in ts)
      → part ((serve t who (to_read i (c (s b)))).told ∷ ts) f ≡ heard i b (c (only mine s b)) t s qs ts
  own_lent i b c o t s qs ts f e = own_read i (c (s b)) (some b) o t s qs ts f e ∙ ap (λ (w : List ℕ). heard i b (c w) t s qs ts) (own_contents mine s b o)

  own : (q : LendingRequest) → LendsOwn mine true (lends q) → (t : ReaderTable) (s : Buffers) (qs : List LendingRequest) (ts : List TableReply) (f : Buffers)
      → part ts f
      ≡ replay (view who (serve t who (request_in_full s q)).table) (only mine (buffers_after s (lends q) (serve t who (request_in_full s q)).told)) qs
      (openings_in ts)
      → part ((serve t who (request_in_full s q)).told ∷ ts) f
      ≡ replay (view who t) (only mine s) (q ∷ qs) (openings_in ((serve t who (request_in_full s q)).told ∷ ts))
  own (request_open n) o t s qs ts f e =
      ap (in_front (open_reply (open_place_of t who n).placing))
      (e ∙ ap (λ (v : ℕ → Option Reader). replay v (only mine s) qs (openings_in ts)) (opens who h t n))
  own (request_feed i n b) o t s qs ts f e = own_lent i b (λ (w : List ℕ). one (feed n w)) o t s qs ts f e
  own (request_run i x b) o t s qs ts f e = own_lent i b (λ (w : List ℕ). run x w) o t s qs ts f e
  own (request_finish i) o t s qs ts f e = own_read i (one done) none o t s qs ts f e
  own (request_close i) o t s qs ts f e =
      let k = closes who h t i in
      ap (λ (y : TableReply). part (y ∷ ts) f) k.0
      ∙ ap (in_front (told_closed (view who t i))) (e ∙ ap (λ (v : ℕ → Option Reader). replay v (only mine s) qs (openings_in ts)) k.1)

  replayed : (cs : List LendingCall) (t : ReaderTable) (s : Buffers) → OwnBuffers mine who cs
      → part (told_to who t (history_in_full t s cs)) (only mine (buffers_left t s cs))
      ≡ replay (view who t) (only mine s) (requests_of who cs) (openings_in (told_to who t (history_in_full t s cs)))
  replayed [] t s o = refl
  replayed (c ∷ cs) t s o = go (eqb c.who who) refl o.0 (replayed cs x.table after o.1)
    where
      x : TableServed
      x = serve t c.who (request_in_full s c.request)

      after : Buffers
      after = buffers_after s (lends c.request) x.told

      rest : List TableReply
      rest = told_to who x.table (history_in_full x.table after cs)

      left : Buffers
      left = only mine (buffers_left x.table after cs)

      qs : List LendingRequest
      qs = requests_of who cs

      go : (b : Bool) → eqb c.who who ≡ b → LendsOwn mine b (lends c.request)
          → part rest left ≡ replay (view who x.table) (only mine after) qs (openings_in rest)
          → part (cond b (x.told ∷ rest) rest) left
          ≡ replay (view who t) (only mine s) (cond b (c.request ∷ qs) qs) (openings_in (cond b (x.told ∷ rest) rest))
      go true e l k =
          subst
          (λ (n : ℕ).
          part rest left
          ≡ replay (view who (serve t n (request_in_full s c.request)).table)
          (only mine (buffers_after s (lends c.request) (serve t n (request_in_full s c.request)).told)) qs (openings_in rest)
          → part ((serve t n (request_in_full s c.request)).told ∷ rest) left
          ≡ replay (view who t) (only mine s) (c.request ∷ qs) (openings_in ((serve t n (request_in_full s c.request)).told ∷ rest)))
          (sym (eqb-true _ _ e)) (own c.request l t s qs rest left) k
      go false e l k =
          k
          ∙ ap₂ (λ (v : ℕ → Option Reader) (u : Buffers). replay v u qs (openings_in rest)) (other_keeps who h c.who e t (request_in_full s c.request))
          (after_others mine s (lends c.request) x.told l)

-- A number that is no technician's is told 32 of all it asks, and its buffers stay as they are.

abbrev refused_all : Buffers → List LendingRequest → Part
refused_all s qs = part (map (λ (q : LendingRequest). strange (request_in_full s q)) qs) s

module _ (mine : ℕ → Bool) (who : ℕ) (h : is_technician who ≡ false) where
  strange_own : (s : Buffers) (q : LendingRequest) → LendsOwn mine true (lends q) → strange (request_in_full s q) ≡ strange (request_in_full (only mine s) q)
  strange_own s (request_open n) o = refl
  strange_own s (request_feed i n b) o = ap (λ (w : List ℕ). strange (to_read i (one (feed n w)))) (own_contents mine s b o)
  strange_own s (request_run i x b) o = ap (λ (w : List ℕ). strange (to_read i (run x w))) (own_contents mine s b o)
  strange_own s (request_finish i) o = refl
  strange_own s (request_close i) o = refl

  -- the buffer that is lent comes back as it was
  lent_back_lem : (s : Buffers) (b a : ℕ) → but s b (s b) a ≡ s a
  lent_back_lem s b a = go (eqb a b) refl
    where
      go : (x : Bool) → eqb a b ≡ x → cond x (s b) (s a) ≡ s a
      go true e = ap s (sym (eqb-true a b e))
      go false e = refl

  strange_after : (s : Buffers) (q : LendingRequest) → buffers_after s (lends q) (strange (request_in_full s q)) ≡ s
  strange_after s (request_open n) = refl
  strange_after s (request_feed i n b) = λ k a. lent_back_lem s b a k
  strange_after s (request_run i x b) = λ k a. lent_back_lem s b a k
  strange_after s (request_finish i) = refl
  strange_after s (request_close i) = refl

  strangers : (cs : List LendingCall) (t : ReaderTable) (s : Buffers) → OwnBuffers mine who cs
      → part (told_to who t (history_in_full t s cs)) (only mine (buffers_left t s cs)) ≡ refused_all (only mine s) (requests_of who cs)
  strangers [] t s o = refl
  strangers (c ∷ cs) t s o = go (eqb c.who who) refl o.0 (strangers cs x.table after o.1)
    where
      q : LendingRequest
      q = c.request

      x : TableServed
      x = serve t c.who (request_in_full s q)

      after : Buffers
      after = buffers_after s (lends q) x.told

      rest : List TableReply
      rest = told_to who x.table (history_in_full x.table after cs)

      left : Buffers
      left = only mine (buffers_left x.table after cs)

      qs : List LendingRequest
      qs = requests_of who cs

      go : (b : Bool) → eqb c.who who ≡ b → LendsOwn mine b (lends q) → part rest left ≡ refused_all (only mine after) qs
          → part (cond b (x.told ∷ rest) rest) left ≡ refused_all (only mine s) (cond b (q ∷ qs) qs)
      go true e l k =
          let told : x.told ≡ strange (request_in_full s q) =
          ap (λ (n : ℕ). (serve t n (request_in_full s q)).told) (eqb-true _ _ e) ∙ ap (λ (y : TableServed). y.told) (stranger who h t (request_in_full s q)) in
          let same : after ≡ s = ap (buffers_after s (lends q)) told ∙ strange_after s q in
          ap₂ in_front (told ∙ strange_own s q l) (k ∙ ap (λ (u : Buffers). refused_all (only mine u) qs) same)
      go false e l k = k ∙ ap (λ (u : Buffers). refused_all u qs) (after_others mine s (lends q) x.told l)

-- isolation
pub isolation : (who : ℕ) → Isolated who
isolation who mine s z cs ds own-cs own-ds first same openings =
    let e = go (is_technician who) refl in (
      ap (λ (p : Part). p.told) e,
      only_same mine (buffers_left empty_table s cs) (buffers_left empty_table z ds) (ap (λ (p : Part). p.buffers) e),
    )
  where
    go : (b : Bool) → is_technician who ≡ b
        → part (told_from who s cs) (only mine (buffers_left empty_table s cs)) ≡ part (told_from who z ds) (only mine (buffers_left empty_table z ds))
    go true h =
        replayed mine who h cs empty_table s own-cs
        ∙ ap (λ (u : Buffers). replay (view who empty_table) u (requests_of who cs) (openings_in (told_from who s cs))) (same_only mine s z first)
        ∙ ap₂ (λ (qs : List LendingRequest) (os : List Placing). replay (view who empty_table) (only mine z) qs os) same openings
        ∙ sym (replayed mine who h ds empty_table z own-ds)
    go false h =
        strangers mine who h cs empty_table s own-cs
        ∙ ap₂ refused_all (same_only mine s z first) same
        ∙ sym (strangers mine who h ds empty_table z own-ds)

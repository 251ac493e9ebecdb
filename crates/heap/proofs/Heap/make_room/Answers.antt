use Rattle.std.proofs.Common.{refl, arith}
use Rattle.std.proofs.lemmas.Bool.{lt-ltb}
use Rattle.heap.specs.Views.{view}
use Rattle.heap.proofs.Objects.{room-there, room-packed}
use Rattle.heap.proofs.Heap.make_room.Goals as goal

pub returns-then-self-need : goal.returns-then-self-need
returns-then-self-need g c =
    record {
      rooms = record { room = λ gr s st. room-there _ _ gr s st c.args.need (omega arith); later = λ gr s st. refl; limit = refl; refusal = tt; roomy = λ l. refl };
      scheme = refl;
    }

pub returns-then-live-need : goal.returns-then-live-need
returns-then-live-need g c =
    let packs = c.reclaim-live.ensures.packs in
    record {
      rooms =
          record {
            room = λ gr s st. (refl, (packs.packed gr s st).stands, lt-ltb _ _ (omega (arith, (packs.packed gr s st).told, packs.limit)));
            later = λ gr s st. (packs.packed gr s st).later;
            limit = packs.limit;
            refusal = refl;
            roomy = λ l. absurd (omega arith);
          };
      scheme = c.reclaim-live.ensures.scheme;
    }

pub returns : goal.returns
returns g c =
    let packs = c.reclaim-live.ensures.packs in
    record {
      rooms =
          record {
            room = λ gr s st.
                room-packed _ (view {S = g.row.S.Denot} g.M.Memory.words c.args.self.now) gr s st c.args.need _ (omega arith) (packs.packed gr s st).stands (omega (arith, (packs.packed gr s st).told, packs.limit));
            later = λ gr s st. (packs.packed gr s st).later;
            limit = packs.limit;
            refusal = tt;
            roomy = λ l. absurd (omega arith);
          };
      scheme = c.reclaim-live.ensures.scheme;
    }

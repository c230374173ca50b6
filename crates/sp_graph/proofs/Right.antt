-- The edges of a log lead from what is taken to what takes it.
use Rattle.std.proofs.Common.{◌↔◌, ℕ, Bool, true, false, List, [], arith}
use Rattle.sp_spec.specs.Lists.{Member}
use Rattle.sp_spec.specs.Log.{Entry}
use Rattle.sp_graph.specs.Edges.{Edge, edges}
use Rattle.sp_graph.specs.Laws.{Leads, GraphIsRight}
use Rattle.sp_graph.proofs.Leading.{Tests, edge_leads, has_edge, edges_in_order, in_order_once}
use Rattle.sp_graph.proofs.Tells.{fact_tested, message_tested}

leads_by : (A B : Entry → ℕ → Entry → Type 0) → ((e : Entry) (p : ℕ) (x : Entry) → A e p x → B e p x) → (entries : List Entry) (p q : ℕ)
    → Leads A entries p q → Leads B entries p q
leads_by A B f entries p q h =
    record { taken = h.taken; taking = h.taking; from = h.from; to = h.to; earlier = h.earlier; takes = f h.taking p h.taken h.takes }

-- where a test tells what is taken
edges_of_kind : (is_fact : Bool) (Takes : Entry → ℕ → Entry → Type 0) → ((e : Entry) (p : ℕ) (x : Entry) → Tests is_fact e p x ↔ Takes e p x)
    → (entries : List Entry) (p q : ℕ) → Member (record { from = p; is_fact = is_fact; to = q }) (edges entries) ↔ Leads Takes entries p q
edges_of_kind is_fact Takes tells entries p q =
    let a : Edge = record { from = p; is_fact = is_fact; to = q } in (
      (λ m. leads_by (Tests is_fact) Takes (λ e n x. (tells e n x).0) entries p q (edge_leads [] entries a m)),
      (λ h. has_edge [] entries a (omega arith) (leads_by Takes (Tests is_fact) (λ e n x. (tells e n x).1) entries p q h)),
    )

pub graph_is_right : GraphIsRight
graph_is_right = record {
  facts = edges_of_kind true _ fact_tested;
  messages = edges_of_kind false _ message_tested;
  once = λ entries. in_order_once (edges entries) (edges_in_order [] entries);
  in_order = λ entries. edges_in_order [] entries;
}

-- What the layers above use of the lemmas of wiring and files.
pub use Rattle.files.proofs.ListMembers.{tests, or_cases, or_left, or_right, is_true, was_true, eq→eqb, neqb, in_cast, all_cons, in_up_to, last_in, at_most}
pub use Rattle.wiring.proofs.FrameLemmas.{length-bits_of, marked-room}
pub use Rattle.wiring.proofs.FrameLemmas.{Bits, length-packed_in, bit-packed, bits-bits_of}
pub use Rattle.files.proofs.ListMembers.{take_in, any_append}
pub use Rattle.files.proofs.OneMore.{drop-next, set_next}
pub use Rattle.frames.proofs.ValuesPut.{sets-front, sets_then}
pub use Rattle.wiring.proofs.graph.GraphWalks.{Skip, NoBack, repeats-nothing, same_rest, same-chain, rest_of}
pub use Rattle.wiring.proofs.graph.ReachedByChain.{Joined}
pub use Rattle.wiring.proofs.graph.LongChains.{all-joined}
pub use Rattle.wiring.proofs.phys.WiredPhys.{ChainTail, Wired, one-step}
pub use Rattle.files.proofs.Domains.{end-attached, expander-attached, attached_cases, in_range_lem}
pub use Rattle.wiring.proofs.phys.WiredPhys.{differ, far-below, far-is, to-adj, adj_symmetric}
pub use Rattle.files.proofs.CallResults.{good-one, unless-good, good-unless, then-good, good-then}
pub use Rattle.files.proofs.ReadDomain.{read-good, stated-expanders}
pub use Rattle.wiring.proofs.WiredAndLinked.{wired_iff, wired-file}
pub use Rattle.wiring.proofs.index.IndexEntries.{far_in}
pub use Rattle.wiring.proofs.FileRows.{file-room, opened, opened_as, opened-fits}
pub use Rattle.files.proofs.PastLimits.{header_cut}
pub use Rattle.files.proofs.RowsAsDomain.{domain-few}
pub use Rattle.files.proofs.ShortFile.{short-file}
pub use Rattle.wiring.proofs.Courses.{wiring-more}
pub use Rattle.files.proofs.stated_count.Reads.{Asked as stated-count-asked, Learnt as stated-count-learnt}

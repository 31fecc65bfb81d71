use Rattle.std.proofs.Common.{◌≡◌, ◌+◌, ◌*◌, ◌%◌, ◌^◌, take, fold}
use Rattle.diff_calls.proofs.feed.FeedHasher.write.Given as goal

abbrev pub invariant-loop-byte : goal.invariant-loop-byte
invariant-loop-byte l = record {
  calls : l.self.calls ≡ (l.fn.self.calls + 1) % 2 ^ 64;
  digest :
      l.self.digest
      ≡ fold (λ n b. (n * 1099511628211 % 2 ^ 64 + b) % 2 ^ 64) l.fn.self.digest (take l.byte-index l.bytes);
}

-- Which records may come to a platform.
use Rattle.std.specs.Prelude.{◌≡◌, ◌≤◌, ◌<◌, true, length}
use Rattle.std.specs.List.{AllByRecursion}
use Rattle.rcp_base.specs.Feed.{FeedRecord, has_length, begins, is_time, moment_of}
use Rattle.platform_laws.specs.Platforms.{PlatformOf}

-- The body has the length of its kind, a connection that is opened has a number above those of the open ones, and time doesn't go back.
pub record MayStep (seen : PlatformOf) (item : FeedRecord) : Type 0 where
  pub body : has_length item.kind (length item.body) ≡ true
  pub number : begins item.kind ≡ true → AllByRecursion (λ entry. entry.0 < item.source) seen.sessions
  pub time : is_time item.kind ≡ true → seen.time ≤ moment_of item.body

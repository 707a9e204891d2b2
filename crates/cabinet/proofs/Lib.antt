mod LineFeeds
